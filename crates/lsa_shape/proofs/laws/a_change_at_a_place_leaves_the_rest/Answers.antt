use Rattle.std.proofs.Common.{inl, inr, sym, subst, ◌≡◌, ◌⊎◌}
use Rattle.lsa_path.specs.Ref.{Ref}
use Rattle.lsa_shape.specs.Shapes.{IsIn, IsOff}
use Rattle.lsa_shape.specs.Ways.{plug}
use Rattle.lsa_shape.specs.laws.Places.{plug-changed, inorder-plug}
use Rattle.lsa_shape.proofs.laws.a_change_at_a_place_leaves_the_rest.Goals as goal

pub returns-clause-changed : goal.returns-clause-changed
returns-clause-changed c = λ old new start way s t r well h clear here stays off out. plug-changed old new well start way s t (λ z. (z ≡ r) ⊎ IsIn z s) h clear here stays
    (λ z i. elim i [ inl same ↦ inr (subst (λ (x : Ref). IsOff start x × (IsIn x (plug way s) → ⊥)) (sym same) (off, out)) | inr inside ↦ inl inside ])

pub returns-clause-order : goal.returns-clause-order
returns-clause-order c = inorder-plug
