-- What stands alone stays where others are made and freed.
use Rattle.std.proofs.Common.{◌≡◌, ◌≢◌, ℕ, None, IsSome, is_some, sym, ap, ◌∙◌, subst}
use Rattle.lsa_store.specs.declared.place.Ref.{Ref}
use Rattle.lsa_region.specs.declared.end.End.TheVariants.{Obj}
use Rattle.lsa_region.specs.Region.{View, body, IsFreed}
use Rattle.rc_object.specs.Objects.{IsMade}
use Rattle.rc_chain_tests.specs.Alone.{IsAlone}

-- what is there is not what was not there
there-apart : (v : View) (r e : Ref) → IsSome (body v r) → body v e ≡ None → r ≢ e
there-apart v r e there none is = let clash = sym (ap is_some none) ∙ ap (λ q. is_some (body v q)) (sym is) ∙ there in cc

pub alone-made : (S : ℕ) (old new : View) (e : Ref) (size : ℕ) → IsMade S old new e size → (r : Ref) → IsAlone old r → IsAlone new r
alone-made S old new e size made r h = let added = made.object.2.added in record {
  there = subst IsSome (sym (added.others r (there-apart old r e h.there added.fresh))) h.there;
  unset = λ field. added.links (Obj r field) ∙ h.unset field;
}

-- what stood alone at first, when e was not there, stays where e is freed
pub alone-freed : (first old new : View) (e : Ref) → IsFreed old new e → body first e ≡ None → (r : Ref) → IsAlone first r → IsAlone old r → IsAlone new r
alone-freed first old new e freed fresh r before h = record {
  there = subst IsSome (sym (freed.others r (there-apart first r e before.there fresh))) h.there;
  unset = λ field. freed.links (Obj r field) ∙ h.unset field;
}
