-- The new write's number stands behind the others of its partition; where there is no room for it, the write is taken back.
use Rattle.std.proofs.Common.{◌≡◌, ℕ, ◌+◌, List, [], ◌∷◌, ◌++◌, Option, Some, cond, length, get_or, sym, ap, subst, ◌∙◌, arith}
use Rattle.std.specs.Ordering.{eq_by_cmp}
use Rattle.std.proofs.Math.Seq.{get_or-append_seam}
use Rattle.std.proofs.lemmas.List.{length-append}
use Rattle.rc_position.specs.Position.{bytes_cmp}
use Rattle.rc_mutation.specs.declared.mutations.Write.{Write}
use Rattle.rc_plain.specs.calls.Index.{numbers_at_key, numbers_of, IsIndexOf}
use Rattle.rc_plain.proofs.Numbers.{index_more, index_same, popped}
use Rattle.rc_plain.proofs.memtable.Memtable.put.Goals as goal

pub invariant_of-self-in-Ok : goal.invariant_of-self-in-Ok
invariant_of-self-in-Ok c =
    let writes : List Write = c.self.inside.writes.items in
    let count : c.len-number.result ≡ length writes = omega (arith, c.len-number.ensures, c.self.inside.writes.ok) in
    let last : c.index.result.now ≡ c.args.write =
    ◌∙◌ {A = Write} c.index.ensures (◌∙◌ {A = Write} (ap (λ (ws : List Write). get_or ws c.len-number.result c.index.result.now) c.in_ok-push.ensures.items)
    (◌∙◌ {A = Write} (ap (λ n. get_or (writes ++ c.args.write ∷ []) n c.index.result.now) count) (get_or-append_seam writes c.args.write [] c.index.result.now))) in
    let put : (q : List ℕ) → numbers_at_key c.add_number.new.index q ≡ cond (eq_by_cmp bytes_cmp c.args.write.key q) (Some (numbers_of c.self.inside.index c.args.write.key ++ length writes ∷ [])) (numbers_at_key c.self.inside.index q) = λ q.
    ◌∙◌ {A = Option (List ℕ)} (c.in-Ok.ensures.ok q) (◌∙◌ {A = Option (List ℕ)} (ap (λ (w : Write). cond (eq_by_cmp bytes_cmp w.key q) (Some (numbers_of c.self.inside.index w.key ++ c.len-number.result ∷ [])) (numbers_at_key c.self.inside.index q)) last)
    (ap (λ n. cond (eq_by_cmp bytes_cmp c.args.write.key q) (Some (numbers_of c.self.inside.index c.args.write.key ++ n ∷ [])) (numbers_at_key c.self.inside.index q)) count)) in
    subst (λ (ws : List Write). IsIndexOf ws c.add_number.new.index) (sym c.in_ok-push.ensures.items) (index_more writes c.args.write c.self.inside.index c.add_number.new.index c.self.invariant put)

pub invariant_of-self-in-Err : goal.invariant_of-self-in-Err
invariant_of-self-in-Err c =
    let writes : List Write = c.self.inside.writes.items in
    let count : c.push.new.self.len ≡ length writes + 1 = omega (arith, c.push.new.self.ok, ap length c.in_ok-push.ensures.items, length-append writes (c.args.write ∷ [])) in
    let back : c.pop.new.self.items ≡ writes = popped writes c.args.write c.push.new.self.items c.pop.new.self.items c.push.new.self.len c.in_ok-push.ensures.items count c.pop.ensures.rest in
    subst (λ (ws : List Write). IsIndexOf ws c.add_number.new.index) (sym back) (index_same writes c.self.inside.index c.add_number.new.index c.self.invariant c.in-Err.ensures.err)
