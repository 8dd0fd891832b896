use Rattle.std.proofs.Common.{◌≡◌, ◌≢◌, ◌⊎◌, ◌+◌, take, drop, inl, inr, ap, sym, ◌∙◌, arith}
use Rattle.std.proofs.Math.Seq.{take-length}
use Rattle.std.proofs.Common.{length-drop}
use Rattle.rc_rowcode.specs.laws.Limits.{key_limits}
use Rattle.rc_rowcode.specs.laws.Sizes.{pos_code_small}
use Rattle.lsa_kinds.specs.declared.kind.Kind.{Kind}
use Rattle.lsa_kinds.specs.declared.kind.Kind.TheVariants.{Version, RowEntry, Dummy, Static}
use Rattle.rc_object.specs.Objects.{row_part}
use Rattle.rc_object.specs.laws.Spelled.{seen_row, entry_long, row_there}
use Rattle.rc_object.proofs.entries.row_code.Goals as goal

other : (kind : Kind) → (kind ≡ Version) ⊎ ((kind ≡ RowEntry) ⊎ (kind ≡ Dummy)) → kind ≢ Static
other kind (inl e) f = cc
other kind (inr (inl e)) f = cc
other kind (inr (inr e)) f = cc

pub get-size-requires : goal.get-size-requires
get-size-requires g c =
    let w = seen_row c.args.region.now c.args.r c.requires.0 c.kind.result c.bytes-bytes.result.now c.requires.1 c.kind.ensures c.bytes-bytes.ensures (other c.kind.result c.in-Version.is) in
    record { inside = omega (arith, entry_long _ w.0 w.1); width = omega arith }

pub overflow_add-result : goal.overflow_add-result
overflow_add-result g c =
    let w = seen_row c.args.region.now c.args.r c.requires.0 c.kind.result c.bytes-bytes.result.now c.requires.1 c.kind.ensures c.bytes-bytes.ensures (other c.kind.result c.in-Version.is) in
    omega (arith, w.1.size, c.get-size.ensures, pos_code_small w.0.position (key_limits w.0.position.prefix w.1.position))

pub slice_bounds-result-count : goal.slice_bounds-result-count
slice_bounds-result-count g c =
    let w = seen_row c.args.region.now c.args.r c.requires.0 c.kind.result c.bytes-bytes.result.now c.requires.1 c.kind.ensures c.bytes-bytes.ensures (other c.kind.result c.in-Version.is) in
    omega (arith, entry_long _ w.0 w.1, w.1.size, c.get-size.ensures)

pub slice_bounds-result-start : goal.slice_bounds-result-start
slice_bounds-result-start g c =
    let w = seen_row c.args.region.now c.args.r c.requires.0 c.kind.result c.bytes-bytes.result.now c.requires.1 c.kind.ensures c.bytes-bytes.ensures (other c.kind.result c.in-Version.is) in
    omega (arith, entry_long _ w.0 w.1, w.1.size, c.get-size.ensures)

pub returns-in-Version : goal.returns-in-Version
returns-in-Version g c = λ row holds.
    let bytes = c.bytes-bytes.result.now in
    let w = seen_row c.args.region.now c.args.r row c.kind.result bytes holds c.kind.ensures c.bytes-bytes.ensures (other c.kind.result c.in-Version.is) in
    ap (λ n. take n (drop (32 + c.get-size.result) bytes)) (sym (length-drop (32 + c.get-size.result) bytes))
    ∙ take-length (drop (32 + c.get-size.result) bytes)
    ∙ ap (λ n. drop (32 + n) bytes) c.get-size.ensures
    ∙ row_there _ w.0 w.1 ∙ ap row_part w.2
