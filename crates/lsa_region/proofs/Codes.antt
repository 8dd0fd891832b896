-- What a number tells is what was told.
use Rattle.std.proofs.Common.{◌≡◌, ◌≢◌, ℕ, zero, suc, ◌+◌, ◌*◌, ◌/◌, ◌%◌, ◌^◌, ◌<◌, ◌≤◌, List, length, cond, Option, Some, None, refl, ap, ◌∙◌, arith}
use Rattle.std.specs.Prelude.{nat_eq, IfSome}
use Rattle.std.proofs.lemmas.Bool.{eq-eqb, eqb-true}
use Rattle.lsa_kinds.specs.Kinds.{links_of}
use Rattle.lsa_store.specs.Reading.{size-least}
use Rattle.lsa_store.specs.Stored.{Stored, IsStored}
use Rattle.lsa_store.specs.laws.Places.{standing}
use Rattle.lsa_store.specs.laws.Written.{object-and, lie-used, lie-even}
use Rattle.lsa_region.specs.declared.end.End.{End}
use Rattle.lsa_region.specs.declared.end.End.TheVariants.{Obj, Slot}
use Rattle.lsa_region.specs.Codes.{end_in, end_of}
use Rattle.lsa_region.specs.calls.Codes.{link_code, IsCodable}
use Rattle.lsa_region.specs.Ends.{IsEndIn}
use Rattle.lsa_region.specs.laws.Ends.{links_few}
use Rattle.lsa_region.specs.laws.Refs.{not_true}
use Rattle.lsa_region.proofs.Vacancies.{there}

tells_slot : (high low : ℕ) → high ≡ 4294967295 → end_in high low ≡ Some (Slot (record { number = low }))
tells_slot zero low e = absurd (omega (arith, e))
tells_slot (suc n) low e = ap (λ b. cond b (Some (Slot (record { number = low }))) (Some (Obj (record { segment = n; offset = low / 256 * 8 }) (low % 256)))) (eq-eqb (suc n) 4294967295 e)

tells_object : (high low n : ℕ) → high ≡ n + 1 → high ≢ 4294967295 → end_in high low ≡ Some (Obj (record { segment = n; offset = low / 256 * 8 }) (low % 256))
tells_object zero low n e ne = absurd (omega (arith, e))
tells_object (suc m) low n e ne =
    let same : m ≡ n = omega (arith, e) in
    ap (λ b. cond b (Some (Slot (record { number = low }))) (Some (Obj (record { segment = m; offset = low / 256 * 8 }) (low % 256)))) (not_true (nat_eq (suc m) 4294967295) (λ t. ne (eqb-true (suc m) 4294967295 t)))
    ∙ ap (λ k. Some (Obj (record { segment = k; offset = low / 256 * 8 }) (low % 256))) same

pub end-code : (named : Option End) → IfSome named IsCodable → end_of (link_code named) ≡ named
end-code None c = refl
end-code (Some (Obj r field)) c =
    let code = (r.segment + 1) * 4294967296 + (r.offset / 8 * 256 + field) in
    let high : code / 4294967296 ≡ r.segment + 1 = omega (arith, c.offset, c.field) in
    let low : code % 4294967296 ≡ r.offset / 8 * 256 + field = omega (arith, c.offset, c.field) in
    let first : (r.offset / 8 * 256 + field) / 256 * 8 ≡ r.offset = omega (arith, c.even, c.field) in
    let last : (r.offset / 8 * 256 + field) % 256 ≡ field = omega (arith, c.field) in
    ap (λ l. end_in (code / 4294967296) l) low ∙ tells_object (code / 4294967296) (r.offset / 8 * 256 + field) r.segment high (omega (arith, high, c.segment))
    ∙ ap (λ (n : ℕ). Some (Obj (record { segment = r.segment; offset = n }) ((r.offset / 8 * 256 + field) % 256))) first ∙ ap (λ (n : ℕ). Some (Obj r n)) last
end-code (Some (Slot root)) c =
    let code = 4294967295 * 4294967296 + root.number in
    let high : code / 4294967296 ≡ 4294967295 = omega (arith, c) in let low : code % 4294967296 ≡ root.number = omega (arith, c) in
    ap (λ l. end_in (code / 4294967296) l) low ∙ tells_slot (code / 4294967296) root.number high

pub code-small : (named : Option End) → IfSome named IsCodable → link_code named < 2 ^ 64
code-small None c = omega arith
code-small (Some (Obj r field)) c = omega (arith, c.segment, c.offset, c.field)
code-small (Some (Slot root)) c = omega (arith, c)

-- an end that is there has a number
pub codable : (size : ℕ) (s : Stored) (roots : List (Option (Option End))) (e : End) → IsStored size s → length roots ≤ 2 ^ 32 → IsEndIn s.cells roots e → IsCodable e
codable size s roots (Obj r field) stored few h =
    let f = object-and s.cells r (λ b. field < links_of b.0) h in let x = f.0 in let used = lie-used size s stored r x.cell x.here in
    record {
      segment = omega (arith, standing s.cells r.segment r.offset x.cell x.here, stored.count, stored.few);
      offset = omega (arith, used, size-least x.cell, stored.sound.used r.segment, stored.small);
      even = lie-even size s stored r x.cell x.here;
      field = omega (arith, f.1, links_few x.kind);
    }
codable size s roots (Slot root) stored few h = omega (arith, there roots root.number h.0 h.1, few)

pub codable-some : (size : ℕ) (s : Stored) (roots : List (Option (Option End))) (named : Option End) → IsStored size s → length roots ≤ 2 ^ 32 → IfSome named (IsEndIn s.cells roots) → IfSome named IsCodable
codable-some size s roots None stored few h = tt
codable-some size s roots (Some e) stored few h = codable size s roots e stored few h
