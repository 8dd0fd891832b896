use Rattle.std.proofs.Common.{rules, ◌≡◌, sym, ◌∙◌, Ok, Err, IfOk, Some}
use Rattle.std.specs.Map.{keys_of}
use Rattle.std.specs.Ordering.{nat_cmp}
use Rattle.std.specs.FinMap.{from_entries}
use Rattle.rc_outside.specs.Files.{AreNumbers}
use Rattle.rc_outside.proofs.Shelved.{keys-from_entries, ascend-from_keys}
use Rattle.rc_outside.proofs.files.Shelf.numbers.Goals as goal

pub returns : goal.returns
returns c =
    let es = c.self.inside.files.entries in
    let whole : IfOk c.collect.result (λ v. v.items ≡ keys_of es) = search rules in
    rw (← c.self.view_is) (elim c.collect.result as (λ r. IfOk r (λ v. v.items ≡ keys_of es) → IfOk r (λ v. AreNumbers (Some (from_entries {R = nat_cmp} es)) v.items)) [
      | Ok v ↦ λ same. (ascend-from_keys (keys_of es) v.items c.keys.ensures.ordered same, same ∙ sym (keys-from_entries es c.keys.ensures.ordered))
      | Err e ↦ λ _. tt
    ] whole)
