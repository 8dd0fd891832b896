-- Entries are forgotten, one number after another.
use Rattle.std.proofs.Common.{inl, inr, ◌≡◌, ◌<◌, ℕ, List, [], ◌∷◌, ◌++◌, Some, None, length, refl, sym, ap, ◌∙◌, subst, append_assoc, append-nil, arith}
use Rattle.rc_registry.specs.Registry.{IsNumberIn}
use Rattle.rc_registry.specs.laws.Numbers.{IsOneOf-back, IsOneOf-front, IsOneOf-parts}
use Rattle.rc_memory.specs.Memory.{Memory, IsTold, chain_at, with_dropped}
use Rattle.rc_entries.specs.Found.{DoKeysAscend, IsForgotten}
use Rattle.rc_entries.specs.Entries.{AreEntries, AreSettled}
use Rattle.rc_entries.specs.calls.Index.{IsIndex}
use Rattle.rc_entries.proofs.Ways.{none-is-none}
use Rattle.rc_entries.proofs.Leaving.{cached-same}

pub forgotten-none : (entries : List (List ℕ × ℕ)) → IsForgotten [] entries entries
forgotten-none entries = record { stays = λ key id e ne. e; left = λ key id e. (e, λ on. on) }

pub forgotten-then : (first more : List ℕ) (old mid new : List (List ℕ × ℕ)) → IsForgotten first old mid → IsForgotten more mid new → IsForgotten (first ++ more) old new
forgotten-then first more old mid new f g = record {
  stays = λ key id e ne. g.stays key id (f.stays key id e (λ on. ne (IsOneOf-front first more id on))) (λ on. ne (IsOneOf-back first more id on));
  left = λ key id e. let m = g.left key id e in let o = f.left key id m.0 in (o.0, λ on. elim (IsOneOf-parts first more id on) [ inl a ↦ o.1 a | inr b ↦ m.1 b ]);
}

-- so many numbers were told, and their entries forgotten
pub record IsForgetting (before now : List (List ℕ × ℕ)) (keys : List (ℕ × List ℕ)) (old new : Memory) : Type 0 where
  pub index : IsIndex now keys
  pub told : List ℕ
  pub dropped : old.dropped ≡ told ++ new.dropped
  pub rest : new ≡ with_dropped new.dropped old
  pub forgotten : IsForgotten told before now
  pub ascend : DoKeysAscend before → DoKeysAscend now

pub forgetting-start : (before now : List (List ℕ × ℕ)) (keys : List (ℕ × List ℕ)) (m : Memory) → now ≡ before → IsIndex now keys → IsForgetting before now keys m m
forgetting-start before now keys m same index = record { index = index; told = []; dropped = refl; rest = refl; forgotten = subst (IsForgotten [] before) (sym same) (forgotten-none before); ascend = λ h. subst DoKeysAscend (sym same) h }

pub forgetting-step : (before now less : List (List ℕ × ℕ)) (keys fewer : List (ℕ × List ℕ)) (old mid new : Memory) (id : ℕ) → IsForgetting before now keys old mid → IsTold mid new (Some id) → IsForgotten (id ∷ []) now less → (DoKeysAscend now → DoKeysAscend less) → IsIndex less fewer → IsForgetting before less fewer old new
forgetting-step before now less keys fewer old mid new id h told gone ascend index = record {
  index = index;
  told = h.told ++ (id ∷ []);
  dropped = h.dropped ∙ ap (λ ns. h.told ++ ns) told.0 ∙ sym (append_assoc h.told (id ∷ []) new.dropped);
  rest = subst (λ (m : Memory). new ≡ with_dropped new.dropped m) h.rest told.1;
  forgotten = forgotten-then h.told (id ∷ []) before now less h.forgotten gone;
  ascend = λ a. ascend (h.ascend a);
}

pub told-less : (mid new : Memory) (id : ℕ) → IsTold mid new (Some id) → length new.dropped < length mid.dropped
told-less mid new id told = let e = ap length told.0 in omega (arith, e)

module _ (before now : List (List ℕ × ℕ)) (keys : List (ℕ × List ℕ)) (old mid new : Memory) (h : IsForgetting before now keys old mid) (told : IsTold mid new None) where
  all-told : old.dropped ≡ h.told
  all-told = h.dropped ∙ ap (λ ns. h.told ++ ns) told.0 ∙ append-nil h.told

  pub over-forgotten : IsForgotten old.dropped before now
  over-forgotten = subst (λ ns. IsForgotten ns before now) (sym all-told) h.forgotten

  pub over-rest : new ≡ with_dropped [] old
  over-rest = told.1 ∙ h.rest ∙ ap (λ ns. with_dropped ns old) told.0

  pub over-settled : AreSettled now new
  over-settled key id e on = subst (λ ns. IsNumberIn ns id) (ap (λ (m : Memory). m.dropped) over-rest) on

  pub over-entries : ((id : ℕ) → IsNumberIn old.dropped id → chain_at old id ≡ None) → AreEntries before old → AreEntries now new
  over-entries gone a = record {
    ascend = h.ascend a.ascend;
    apart = λ key other id e f. a.apart key other id (over-forgotten.left key id e).0 (over-forgotten.left other id f).0;
    kept = λ key id e. let was = over-forgotten.left key id e in elim (a.kept key id was.0) [ inl c ↦ inl (cached-same old new id (same id) c) | inr on ↦ absurd (was.1 on) ];
    all = λ id c. let was = cached-same new old id (sym (same id)) c in let key = a.all id was in
        (key.0, over-forgotten.stays key.0 id key.1 (λ on. none-is-none was.kept (sym (gone id on) ∙ was.there)));
  }
    where
      same : (id : ℕ) → chain_at new id ≡ chain_at old id
      same id = ap (λ (m : Memory). chain_at m id) over-rest
