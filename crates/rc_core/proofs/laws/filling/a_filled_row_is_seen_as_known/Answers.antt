use Rattle.std.specs.Prelude.{[]}
use Rattle.rc_core.specs.laws.Spots.{not_at}
use Rattle.rc_core.specs.laws.Filling.{row-known, row-elsewhere}
use Rattle.rc_core.proofs.laws.filling.a_filled_row_is_seen_as_known.Goals as goal

pub returns : goal.returns
returns c = record { there = λ writes older v p row tomb i g n k. row-known writes older v i p row tomb g n k; elsewhere = λ older v p row tomb i s h. row-elsewhere [] older v i p row tomb s (not_at s p h) }
