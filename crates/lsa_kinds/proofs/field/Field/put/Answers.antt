use Rattle.std.proofs.Common.{◌≡◌, ℕ, ◌+◌, ◌-◌, ◌%◌, ◌/◌, ◌<◌, ◌≤◌, ◌++◌, List, [], ◌∷◌, length, take, drop, refl, sym, ap, ◌∙◌, append_assoc, arith}
use Rattle.std.proofs.Math.ListN.{set}
use Rattle.std.proofs.lemmas.List.{append-nil, drop-set-lt, take-set-le}
use Rattle.lsa_kinds.specs.Fields.{number, spelled_number}
use Rattle.lsa_kinds.specs.laws.Fields.{number-spelled, other_fields}
use Rattle.lsa_kinds.proofs.Numbers.{spelled-next, write_more}
use Rattle.lsa_kinds.proofs.field.Field.put.Goals as goal

pub loop-index-init : goal.loop-index-init
loop-index-init g c = let same : g.row.WIDTH - 0 ≡ g.row.WIDTH = omega arith in record {
  written = ap (λ k. spelled_number k c.args.value) same;
  before = refl;
  behind = refl;
}

written_more : (offset width index rest : ℕ) (bytes : List ℕ) → index < width → offset + width ≤ length bytes
    → take (index + 1) (drop offset (set bytes (offset + index) (rest % 256))) ++ spelled_number (width - (index + 1)) (rest / 256)
    ≡ take index (drop offset bytes) ++ spelled_number (width - index) rest
written_more offset width index rest bytes below inside =
    ap (λ bs. bs ++ spelled_number (width - (index + 1)) (rest / 256)) (write_more offset index (rest % 256) bytes (omega arith))
    ∙ append_assoc (take index (drop offset bytes)) (rest % 256 ∷ []) (spelled_number (width - (index + 1)) (rest / 256))
    ∙ ap (λ bs. take index (drop offset bytes) ++ bs) (sym (spelled-next width index rest below))

pub loop-index-preserved : goal.loop-index-preserved
loop-index-preserved g c =
    let i = c.loop-index.index in let bytes = c.loop-index.bytes in let byte = c.loop-index.rest % 256 in record {
      written = written_more g.row.OFFSET g.row.WIDTH i c.loop-index.rest bytes (omega arith) (omega arith) ∙ c.loop-index.invariant.written;
      before = take-set-le g.row.OFFSET bytes (g.row.OFFSET + i) byte (omega arith) ∙ c.loop-index.invariant.before;
      behind = drop-set-lt (g.row.OFFSET + g.row.WIDTH) bytes (g.row.OFFSET + i) byte (omega arith) ∙ c.loop-index.invariant.behind;
    }

at_end : (offset width index value rest : ℕ) (bytes : List ℕ) → index ≡ width → take index (drop offset bytes) ++ spelled_number (width - index) rest ≡ spelled_number width value
    → take width (drop offset bytes) ≡ spelled_number width value
at_end offset width index value rest bytes e written =
    let none : width - index ≡ 0 = omega arith in
    let front : take index (drop offset bytes) ≡ take width (drop offset bytes) = ap (λ k. take k (drop offset bytes)) e in
    sym (append-nil (take width (drop offset bytes))) ∙ ap (λ bs. bs ++ []) (sym front) ∙ ap (λ k. take index (drop offset bytes) ++ spelled_number k rest) (sym none) ∙ written

pub returns-clause-bytes : goal.returns-clause-bytes
returns-clause-bytes g c =
    at_end g.row.OFFSET g.row.WIDTH c.loop-index.index c.args.value c.loop-index.rest c.loop-index.bytes (omega arith) c.loop-index.invariant.written

pub returns-clause-put : goal.returns-clause-put
returns-clause-put g c =
    let before = c.loop-index.invariant.before in let behind = c.loop-index.invariant.behind in record {
      written = ap number (returns-clause-bytes g c) ∙ number-spelled g.row.WIDTH c.args.value c.requires.fits;
      before = before;
      behind = behind;
      others = other_fields c.args.bytes.now c.loop-index.bytes g.row.OFFSET g.row.WIDTH before behind;
    }
