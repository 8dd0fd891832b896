-- Laws of paths, over any way in which ends name ends.
use Rattle.std.proofs.Common.{◌≡◌, ◌≢◌, ℕ, List, [], ◌∷◌, ◌++◌, Option, Some, None, refl, sym, ap, ◌∙◌}
use Rattle.lsa_region.specs.Ref.{Ref}
use Rattle.lsa_region.specs.declared.end.End.{End}
use Rattle.lsa_region.specs.declared.end.End.TheVariants.{Obj, Slot}
use Rattle.lsa_region.specs.Paired.{WellPaired}
use Rattle.lsa_path.specs.Path.{IsPath, IsOutside, IsOutsideOrUnset, behind, AllOnward, IsInserted, IsTakenOut}

-- what two ends would say of their objects and fields
pub same_field : (r s : Ref) (f g : ℕ) → Obj r f ≡ Obj s g → f ≡ g
same_field r s f g e = cc

pub same_object : (r s : Ref) (f g : ℕ) → Obj r f ≡ Obj s g → r ≡ s
same_object r s f g e = cc

pub same_some : (a b : End) → Some a ≡ Some b → a ≡ b
same_some a b e = cc

not_some : (a : End) (o : Option End) → o ≡ None → o ≡ Some a → ⊥
not_some a o none some = let clash = sym none ∙ some in cc

-- an end outside is none of the links
pub outside-toward : (i o : ℕ) (e : End) (r : Ref) → IsOutside i o e → e ≢ Obj r i
outside-toward i o (Obj s f) r h = λ e. h.0 (same_field s r f i e)
outside-toward i o (Slot s) r h = λ e. cc

pub outside-onward : (i o : ℕ) (e : End) (r : Ref) → IsOutside i o e → e ≢ Obj r o
outside-onward i o (Obj s f) r h = λ e. h.1 (same_field s r f o e)
outside-onward i o (Slot s) r h = λ e. cc

pub all_map : (o : ℕ) (P Q : End → Type 0) (xs : List Ref) → ((e : End) → P e → Q e) → AllOnward o P xs → AllOnward o Q xs
all_map o P Q [] f h = h
all_map o P Q (x ∷ xs) f h = (f (Obj x o) h.0, all_map o P Q xs f h.1)

pub all_behind : (o : ℕ) (P : End → Type 0) (s : End) (xs ys : List Ref) → P s → AllOnward o P (xs ++ ys) → P (behind o s xs)
all_behind o P s [] ys here h = here
all_behind o P s (x ∷ xs) ys here h = all_behind o P (Obj x o) xs ys h.0 h.1

pub all_rest : (o : ℕ) (P : End → Type 0) (xs ys : List Ref) → AllOnward o P (xs ++ ys) → AllOnward o P ys
all_rest o P [] ys h = h
all_rest o P (x ∷ xs) ys h = all_rest o P xs ys h.1

-- a path stays the same where what it leaves by names what it did
pub path-same : (i o : ℕ) (old new : End → Option End) (s : End) (xs : List Ref) (f : Option End) → new s ≡ old s → AllOnward o (λ e. new e ≡ old e) xs → IsPath i o old s xs f → IsPath i o new s xs f
path-same i o old new s [] f here h p = here ∙ p
path-same i o old new s (x ∷ xs) f here h p = (here ∙ p.0, path-same i o old new (Obj x o) xs f h.0 h.1 p.1)

-- and where every end names what it did
pub path-everywhere : (i o : ℕ) (old new : End → Option End) (s : End) (xs : List Ref) (f : Option End) → ((e : End) → new e ≡ old e) → IsPath i o old s xs f → IsPath i o new s xs f
path-everywhere i o old new s [] f same p = same s ∙ p
path-everywhere i o old new s (x ∷ xs) f same p = (same s ∙ p.0, path-everywhere i o old new (Obj x o) xs f same p.1)

-- a path in two parts
pub path-rest : (i o : ℕ) (named : End → Option End) (s : End) (xs ys : List Ref) (f : Option End) → IsPath i o named s (xs ++ ys) f → IsPath i o named (behind o s xs) ys f
path-rest i o named s [] ys f p = p
path-rest i o named s (x ∷ xs) ys f p = path-rest i o named (Obj x o) xs ys f p.1

-- the last of a path names the finish
pub path-end : (i o : ℕ) (named : End → Option End) (s : End) (xs : List Ref) (f : Option End) → IsPath i o named s xs f → named (behind o s xs) ≡ f
path-end i o named s [] f p = p
path-end i o named s (x ∷ xs) f p = path-end i o named (Obj x o) xs f p.1

-- an end of the path: it is outside, or the link onward of an object whose link toward is set
abbrev pub IsStep : ℕ → ℕ → (End → Option End) → End → Type 0
IsStep i o named e = (r : Ref) → (e ≢ Obj r i) × (e ≡ Obj r o → named (Obj r i) ≢ None)

module _ (i o : ℕ) (differ : i ≢ o) (named : End → Option End) (well : WellPaired named) where
  step-outside : (e : End) → IsOutside i o e → IsStep i o named e
  step-outside e out = λ r. (outside-toward i o e r out, λ same. absurd (outside-onward i o e r out same))

  step-next : (s : End) (x : Ref) → named s ≡ Some (Obj x i) → IsStep i o named (Obj x o)
  step-next s x is = λ r. ((λ same. differ (sym (same_field x r o i same))), λ same none. not_some s (named (Obj r i)) none (ap (λ q. named (Obj q i)) (sym (same_object x r o o same)) ∙ well.mates s (Obj x i) is))

  pub steps : (s : End) (xs : List Ref) (f : Option End) → IsPath i o named s xs f → AllOnward o (IsStep i o named) xs
  steps s [] f p = tt
  steps s (x ∷ xs) f p = (step-next s x p.0, steps (Obj x o) xs f p.1)

  -- where an end of the path is not left again, the next one is not
  fresh_from : (s : End) (x : Ref) → named s ≡ Some (Obj x i) → (t : End) (ys : List Ref) (f : Option End) → t ≢ s → IsPath i o named t ys f → AllOnward o (λ e. e ≢ s) ys → AllOnward o (λ e. e ≢ Obj x o) ys
  fresh_from s x is t [] f ne p h = tt
  fresh_from s x is t (y ∷ ys) f ne p h = (
    (λ same. let back = well.mates t (Obj y i) p.0 in let q = well.mates s (Obj x i) is in
        ne (same_some t s (sym back ∙ ap (λ r. named (Obj r i)) (same_object y x o o same) ∙ q))),
    fresh_from s x is (Obj y o) ys f h.0 p.1 h.1,
  )

  pub fresh-next : (s : End) (x : Ref) (xs : List Ref) (f : Option End) → IsPath i o named s (x ∷ xs) f → AllOnward o (λ e. e ≢ s) (x ∷ xs) → AllOnward o (λ e. e ≢ Obj x o) xs
  fresh-next s x xs f p h = fresh_from s x p.0 (Obj x o) xs f h.0 p.1 h.1

  pub fresh-start : (s : End) (xs : List Ref) → IsOutside i o s → AllOnward o (λ e. e ≢ s) xs
  fresh-start s [] out = tt
  fresh-start s (x ∷ xs) out = ((λ same. outside-onward i o s x out (sym same)), fresh-start s xs out)

  pub fresh-behind : (s : End) (xs ys : List Ref) (f : Option End) → IsPath i o named s (xs ++ ys) f → AllOnward o (λ e. e ≢ s) (xs ++ ys) → AllOnward o (λ e. e ≢ behind o s xs) ys
  fresh-behind s [] ys f p h = h
  fresh-behind s (x ∷ xs) ys f p h = fresh-behind (Obj x o) xs ys f p.1 (fresh-next s x (xs ++ ys) f p h)

  -- the finish names the end before it
  pub path-last : (s : End) (xs : List Ref) (e : End) → IsPath i o named s xs (Some e) → named e ≡ Some (behind o s xs)
  path-last s [] e p = well.mates s e p
  path-last s (x ∷ xs) e p = path-last (Obj x o) xs e p.1

  behind_onward : (s : Ref) (xs : List Ref) → (w : Ref) × (behind o (Obj s o) xs ≡ Obj w o)
  behind_onward s [] = (s, refl)
  behind_onward s (x ∷ xs) = behind_onward x xs

  clash_fields : (x w : Ref) → Obj x i ≢ Obj w o
  clash_fields x w e = differ (same_field x w i o e)

  -- no link leads along a path back to its start, or to a link onward
  leads_start : (s : End) (xs ys : List Ref) (f : Option End) → IsPath i o named s (xs ++ ys) f → named (behind o s xs) ≢ Some s
  leads_start s [] ys f p e = well.apart s e
  leads_start s (x ∷ xs) ys f p e = let w = behind_onward x xs in clash_fields x w.0 (same_some (Obj x i) (Obj w.0 o) (sym p.0 ∙ well.mates (behind o (Obj x o) xs) s e ∙ ap (λ t. Some t) w.1))

  leads_onward : (a : End) (ys : List Ref) (f : Option End) → IsOutsideOrUnset i o f → IsPath i o named a ys f → (z : Ref) → named a ≢ Some (Obj z o)
  leads_onward a [] None out p z e = not_some (Obj z o) (named a) p e
  leads_onward a [] (Some f) out p z e = outside-onward i o f z out (same_some f (Obj z o) (sym p ∙ e))
  leads_onward a (y ∷ ys) f out p z e = clash_fields y z (same_some (Obj y i) (Obj z o) (sym p.0 ∙ e))

  onward_start : (s : End) (xs ys : List Ref) (r w : Ref) (f : Option End) → IsPath i o named s (xs ++ (r ∷ ys)) f → named (Obj w o) ≢ Some s
  onward_start s [] ys r w f p e = clash_fields r w (same_some (Obj r i) (Obj w o) (sym p.0 ∙ well.mates (Obj w o) s e))
  onward_start s (x ∷ xs) ys r w f p e = clash_fields x w (same_some (Obj x i) (Obj w o) (sym p.0 ∙ well.mates (Obj w o) s e))

  module _ (new : End → Option End) (a : End) (r : Ref) (ins : IsInserted named new a (Obj r i) (Obj r o)) (unset : named (Obj r i) ≡ None) where
    insert_keep : (e : End) → IsStep i o named e → e ≢ a → named a ≢ Some e → new e ≡ named e
    insert_keep e step ne free = ins.others e ne (step r).0 (λ same. (step r).1 same unset) free

    insert_keeps : (ys : List Ref) → AllOnward o (IsStep i o named) ys → AllOnward o (λ e. e ≢ a) ys → ((z : Ref) → named a ≢ Some (Obj z o)) → AllOnward o (λ e. new e ≡ named e) ys
    insert_keeps [] st ne free = tt
    insert_keeps (y ∷ ys) st ne free = (insert_keep (Obj y o) st.0 ne.0 (free y), insert_keeps ys st.1 ne.1 free)

    insert_rest : (s : End) (ys : List Ref) (f : Option End) → IsPath i o named s ys f → s ≡ a → AllOnward o (λ e. e ≢ s) ys → ((z : Ref) → named a ≢ Some (Obj z o)) → IsPath i o new (Obj r o) ys f
    insert_rest s [] f p is h free = ins.rest ∙ ap named (sym is) ∙ p
    insert_rest s (y ∷ ys) f p is h free =
        let same = insert_keeps (y ∷ ys) (steps s (y ∷ ys) f p) (all_map o (λ e. e ≢ s) (λ e. e ≢ a) (y ∷ ys) (λ e ne to. ne (to ∙ sym is)) h) free in
        (ins.rest ∙ ap named (sym is) ∙ p.0, path-same i o named new (Obj y o) ys f same.0 same.1 p.1)

    insert_walk : (s : End) (xs ys : List Ref) (f : Option End) → IsPath i o named s (xs ++ ys) f → behind o s xs ≡ a → AllOnward o (λ e. e ≢ s) (xs ++ ys) → IsStep i o named s → named a ≢ Some s → ((z : Ref) → named a ≢ Some (Obj z o))
        → IsPath i o new s (xs ++ (r ∷ ys)) f
    insert_walk s [] ys f p is h step never free = (ap new is ∙ ins.front, insert_rest s ys f p is h free)
    insert_walk s (x ∷ xs) ys f p is h step never free = (
      insert_keep s step (λ same. all_behind o (λ e. e ≢ s) (Obj x o) xs ys h.0 h.1 (is ∙ sym same)) never ∙ p.0,
      insert_walk (Obj x o) xs ys f p.1 is (fresh-next s x (xs ++ ys) f p h) (step-next s x p.0) (free x) free,
    )

    -- a path with one inserted
    pub path-inserted : (s : End) (xs ys : List Ref) (f : Option End) → IsOutside i o s → IsOutsideOrUnset i o f → IsPath i o named s (xs ++ ys) f → behind o s xs ≡ a → IsPath i o new s (xs ++ (r ∷ ys)) f
    path-inserted s xs ys f out out' p is = insert_walk s xs ys f p is (fresh-start s (xs ++ ys) out) (step-outside s out)
        (λ e. leads_start s xs ys f p (ap named is ∙ e)) (λ z e. leads_onward (behind o s xs) ys f out' (path-rest i o named s xs ys f p) z (ap named is ∙ e))

  module _ (new : End → Option End) (r : Ref) (out : IsTakenOut named new (Obj r i) (Obj r o)) where
    take_keep : (s e : End) → named (Obj r i) ≡ Some s → IsStep i o named e → e ≢ s → e ≢ Obj r o → named (Obj r o) ≢ Some e → new e ≡ named e
    take_keep s e is step ne apart free = out.others e (step r).0 apart (λ same. ne (same_some e s (sym same ∙ is))) free

    take_keeps : (s : End) (ys : List Ref) → named (Obj r i) ≡ Some s → AllOnward o (IsStep i o named) ys → AllOnward o (λ e. e ≢ s) ys → AllOnward o (λ e. e ≢ Obj r o) ys → ((z : Ref) → named (Obj r o) ≢ Some (Obj z o)) → AllOnward o (λ e. new e ≡ named e) ys
    take_keeps s [] is st ne apart free = tt
    take_keeps s (y ∷ ys) is st ne apart free = (take_keep s (Obj y o) is st.0 ne.0 apart.0 (free y), take_keeps s ys is st.1 ne.1 apart.1 free)

    take_rest : (s : End) (ys : List Ref) (f : Option End) → IsPath i o named s (r ∷ ys) f → AllOnward o (λ e. e ≢ s) (r ∷ ys) → ((z : Ref) → named (Obj r o) ≢ Some (Obj z o)) → IsPath i o new s ys f
    take_rest s [] f p h free = out.before s (well.mates s (Obj r i) p.0) ∙ p.1
    take_rest s (y ∷ ys) f p h free =
        let is = well.mates s (Obj r i) p.0 in
        let same = take_keeps s (y ∷ ys) is (steps (Obj r o) (y ∷ ys) f p.1) h.1 (fresh-next s r (y ∷ ys) f p h) free in
        (out.before s is ∙ p.1.0, path-same i o named new (Obj y o) ys f same.0 same.1 p.1.1)

    take_walk : (s : End) (xs ys : List Ref) (f : Option End) → IsPath i o named s (xs ++ (r ∷ ys)) f → AllOnward o (λ e. e ≢ s) (xs ++ (r ∷ ys)) → IsStep i o named s → named (Obj r o) ≢ Some s → ((z : Ref) → named (Obj r o) ≢ Some (Obj z o)) → IsPath i o new s (xs ++ ys) f
    take_walk s [] ys f p h step never free = take_rest s ys f p h free
    take_walk s (x ∷ xs) ys f p h step never free =
        let before = behind o (Obj x o) xs in
        let at = well.mates before (Obj r i) (path-rest i o named (Obj x o) xs (r ∷ ys) f p.1).0 in (
          take_keep before s at step (λ same. all_behind o (λ e. e ≢ s) (Obj x o) xs (r ∷ ys) h.0 h.1 (sym same)) (λ same. (all_rest o (λ e. e ≢ s) xs (r ∷ ys) h.1).0 (sym same)) never ∙ p.0,
          take_walk (Obj x o) xs ys f p.1 (fresh-next s x (xs ++ (r ∷ ys)) f p h) (step-next s x p.0) (free x) free,
        )

    -- a path with one taken out
    pub path-taken : (s : End) (xs ys : List Ref) (f : Option End) → IsOutside i o s → IsOutsideOrUnset i o f → IsPath i o named s (xs ++ (r ∷ ys)) f → IsPath i o new s (xs ++ ys) f
    path-taken s xs ys f outs outf p = take_walk s xs ys f p (fresh-start s (xs ++ (r ∷ ys)) outs) (step-outside s outs)
        (onward_start s xs ys r r f p) (leads_onward (Obj r o) ys f outf (path-rest i o named s xs (r ∷ ys) f p).1)

  -- two paths from different starts share no end
  pub paths-apart : (s : End) (xs : List Ref) (f : Option End) → IsPath i o named s xs f → (t : End) (ys : List Ref) (g : Option End) → IsOutside i o t → IsPath i o named t ys g → t ≢ s → AllOnward o (λ e. e ≢ s) ys
      → AllOnward o (λ e. (t ≢ e) × AllOnward o (λ d. d ≢ e) ys) xs
  paths-apart s [] f p t ys g out q ne h = tt
  paths-apart s (x ∷ xs) f p t ys g out q ne h =
      let fresh = fresh_from s x p.0 t ys g ne q h in let differs = outside-onward i o t x out in ((differs, fresh), paths-apart (Obj x o) xs f p.1 t ys g out q differs fresh)
