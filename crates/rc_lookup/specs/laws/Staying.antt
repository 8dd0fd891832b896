-- What stays of chains and entries, over one call and over several.
use Rattle.std.proofs.Common.{◌≡◌, ℕ, List, refl, ◌∙◌}
use Rattle.rc_memory.specs.Memory.{KeptChain, Memory, chain_at}
use Rattle.rc_row_cache.specs.Entries.{IsCached}
use Rattle.rc_lookup.specs.Staying.{HasSameContent, IsEntryStill, IsStillThere}

-- ---- a chain

pub same-content : (k : KeptChain) → HasSameContent k k
same-content k = record { kind = refl; attached = refl; versions = refl }

pub content-then : (k l m : KeptChain) → HasSameContent k l → HasSameContent l m → HasSameContent k m
content-then k l m a b = record { kind = b.kind ∙ a.kind; attached = b.attached ∙ a.attached; versions = b.versions ∙ a.versions }

-- one that is as it was
pub still-same : (old new : Memory) (id : ℕ) → chain_at new id ≡ chain_at old id → IsStillThere old new id
still-same old new id same k e = (k, same ∙ e, same-content k)

pub still-then : (old mid new : Memory) (id : ℕ) → IsStillThere old mid id → IsStillThere mid new id → IsStillThere old new id
still-then old mid new id f g k e =
    let a = f k e in
    let b = g a.0 a.1 in
    (b.0, b.1, content-then k a.0 b.0 a.2 b.2)

pub still-cached : (old new : Memory) (id : ℕ) → IsStillThere old new id → IsCached old id → IsCached new id
still-cached old new id h on = let now = h on.kept on.there in record { kept = now.0; there = now.1; kind = now.2.kind ∙ on.kind; attached = now.2.attached ∙ on.attached }

-- ---- an entry

pub entry-itself : (key : List ℕ) (es : List (List ℕ × ℕ)) (m : Memory) → IsEntryStill key es m es m
entry-itself key es m id e on = (e, still-same m m id refl)

pub entry-then : (key : List ℕ) (a b c : List (List ℕ × ℕ)) (old mid new : Memory) → IsEntryStill key a old b mid → IsEntryStill key b mid c new → IsEntryStill key a old c new
entry-then key a b c old mid new f g id e on =
    let x = f id e on in
    let y = g id x.0 (still-cached old mid id x.1 on) in
    (y.0, still-then old mid new id x.1 y.1)
