-- A place of a block becomes room, whatever it holds. Assumes `Logic`.
use Rattle.std.proofs.Common.{ℕ, [], ◌∷◌, Option, Some, None}
use base.Fraction.{full_share}
use base.Logic.{ent, id⊢}
use base.Fml.{fat, froom}
use mir.Val.{Val}
use seplogic.Ra.Ura.{Ura}
use types.Logic.{Logic, sem}
use types.Kit.{‵, ◌⊛◌, ◌$◌, ◌∵◌, !, qed, use1, some, given, keep, pick, learn, split, done}
use Rattle.core.proofs.mem.Param.{elτ}
use Rattle.std_alloc.proofs.RawLayout.{as_written}
use Rattle.std_alloc.proofs.RcSteps.{Good}
use Rattle.circular_buffer.specs.Ownership.{slot}
use Rattle.circular_buffer.proofs.Memory.{value_out}
use Rattle.lsa_segment.specs.Raw.{byte_row}
use Rattle.lsa_segment.proofs.Byte.{byte}

pub emptied : {M : Type 1} {𝓤 : Ura M} (𝓛 : Logic 𝓤) (place : Option ℕ) (b o : ℕ) → ent 𝓤 (sem 𝓛 (slot byte_row b o place)) (sem 𝓛 (slot byte_row b o None))
emptied {𝓤 = 𝓤} 𝓛 None b o = id⊢ 𝓤 _
emptied {𝓤 = 𝓤} 𝓛 (Some x) b o =
    qed 𝓛 (‵ (slot byte_row b o (Some x)) ∷ []) ∵
    use1 𝓛 (some (λ (v : Val). given (Good (elτ byte) v) (‵ (fat full_share (elτ byte) b o v) ⊛ ‵ (byte.row.own_val x (v ∷ []))))) (value_out 0 byte.row byte.laws 𝓛 x b o) $
    pick ! (λ v. learn ! (λ good. split ! $ use1 𝓛 (‵ (froom (elτ byte) b o)) (𝓛.laws.at_room (elτ byte) b o v) $ as_written ! (elτ byte) b o $ keep ! (0 ∷ []) $ done !))
