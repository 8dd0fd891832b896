use Rattle.rc_core.specs.laws.Filling.{row-continuous}
use Rattle.rc_core.proofs.laws.filling.a_filled_row_keeps_continuity.Goals as goal

pub returns : goal.returns
returns c = λ writes older v p row tomb i g n k. row-continuous writes older v i p row tomb g n k
