-- What changes flags or tombstones alone changes no bytes that a version takes.
use Rattle.std.proofs.Common.{◌≡◌, ◌+◌, List, [], ◌∷◌, Bool, true, false, cond, Option, refl, ap, map}
use Rattle.rc_cell.specs.declared.writes.Tomb.{Tomb}
use Rattle.rc_position.specs.declared.positions.Pos.{Pos}
use Rattle.rc_core.specs.declared.entries.Entry.{Entry}
use Rattle.rc_core.specs.declared.entries.Flag.{Flag}
use Rattle.rc_core.specs.Steps.{set_flags, set_tombs}
use Rattle.rc_core.specs.Version.{Version}
use Rattle.rc_version.specs.Versions.{entries_bytes, entry_bytes, statics_bytes, version_bytes}

cond_bytes : (b : Bool) (d e : Entry) → entry_bytes d ≡ entry_bytes e → entry_bytes (cond b d e) ≡ entry_bytes e
cond_bytes true d e same = same
cond_bytes false d e same = refl

mapped_bytes : (f : Entry → Entry) (at : Entry → Bool) → ((e : Entry) → entry_bytes (f e) ≡ entry_bytes e) → (es : List Entry) → entries_bytes (map (λ e. cond (at e) (f e) e) es) ≡ entries_bytes es
mapped_bytes f at same [] = refl
mapped_bytes f at same (e ∷ es) = λ i. cond_bytes (at e) (f e) e (same e) i + mapped_bytes f at same es i

pub flags-bytes : (x : Pos) (at gap : Flag) (c : Version) → version_bytes (set_flags x at gap c) ≡ version_bytes c
flags-bytes x at gap c = ap (λ n. 64 + (statics_bytes c.statics + n)) (mapped_bytes _ _ (λ e. refl) c.entries)

pub tombs-bytes : (x : Pos) (at gap : Option Tomb) (c : Version) → version_bytes (set_tombs x at gap c) ≡ version_bytes c
tombs-bytes x at gap c = ap (λ n. 64 + (statics_bytes c.statics + n)) (mapped_bytes _ _ (λ e. refl) c.entries)
