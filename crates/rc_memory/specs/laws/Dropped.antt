-- The recency list keeps its rule where a version is dropped of which nothing is listed: the objects of newer ones have numbers less by one.
use Rattle.std.proofs.Common.{◌≡◌, ◌≢◌, ℕ, zero, suc, ◌<◌, true, cond, List, [], ◌∷◌, ◌++◌, Option, Some, length, inl, inr, refl, sym, ap, ◌∙◌, subst, map, eq-eqb, ne_eqb, arith}
use Rattle.std.specs.Prelude.{AllPairs, Contains}
use Rattle.std.specs.Option.{option_map}
use Rattle.lsa_pool.specs.laws.Usages.{decided}
use Rattle.rc_position.specs.declared.positions.Pos.{Pos}
use Rattle.rc_registry.specs.Steps.{all_but, number_after_removal}
use Rattle.rc_registry.specs.Version.{Version}
use Rattle.rc_partition.specs.laws.Lists.{elem-first, elem-later, elem-map, elem-mapped, once-cons, once-head, once-none, once-tail}
use Rattle.rc_registry.specs.Registry.{put_at_number}
use Rattle.rc_memory.specs.Memory.{KeptChain, Member, Memory, IsVersionAt, chain_at, on_chain, on_shown, renumbered_member, shown_without}
use Rattle.rc_memory.specs.Recency.{IsRecency, MayBeListed, MustBeListed}
use Rattle.rc_memory.specs.Changes.{member_at}
use Rattle.rc_memory.specs.laws.At.{number-low}
use Rattle.rc_memory.specs.laws.Places.{heads, tails}
use Rattle.rc_memory.specs.laws.Recent.{at_there, rule-put, there_at}
use Rattle.rc_memory.specs.laws.Rules.{below_or_above, length-but, renumbered-less}
use Rattle.rc_memory.specs.laws.Versions.{all-but-is, without-at}

module _ {X : Type 0} where
  -- the number that a version had while another one stood there
  pub back-at : (older newer : List X) (s x : X) (olds news : List X) → older ++ newer ≡ olds ++ (x ∷ news) → (i : ℕ) × IsVersionAt (older ++ (s ∷ newer)) i x × (i ≢ length older) × (number_after_removal (length older) i ≡ length olds)
  back-at [] newer s x olds news e = (suc (length olds), record { older = s ∷ olds; newer = news; split = ap (λ l. s ∷ l) e; number = refl }, (λ c. cc c), refl)
  back-at (o ∷ older) newer s x [] news e = (zero, record { older = []; newer = older ++ (s ∷ newer); split = ap (λ z. z ∷ (older ++ (s ∷ newer))) (heads o x (older ++ newer) news e); number = refl }, (λ c. cc c), refl)
  back-at (o ∷ older) newer s x (y ∷ olds) news e = let k = back-at older newer s x olds news (tails o y (older ++ newer) (olds ++ (x ∷ news)) e) in
      (suc k.0, record { older = o ∷ k.1.older; newer = k.1.newer; split = ap (λ l. o ∷ l) k.1.split; number = ap suc k.1.number }, (λ c. k.2 (cc c)), ap suc k.3)

renumbered-once : (n a b : ℕ) → a ≢ n → b ≢ n → number_after_removal n a ≡ number_after_removal n b → a ≡ b
renumbered-once zero zero b na nb e = absurd (na refl)
renumbered-once zero (suc a) zero na nb e = absurd (nb refl)
renumbered-once zero (suc a) (suc b) na nb e = ap suc e
renumbered-once (suc n) zero zero na nb e = refl
renumbered-once (suc n) zero (suc b) na nb e = cc e
renumbered-once (suc n) (suc a) zero na nb e = cc e
renumbered-once (suc n) (suc a) (suc b) na nb e = ap suc (renumbered-once n a b (λ s. na (ap suc s)) (λ s. nb (ap suc s)) (cc e))

once-mapped : (g : Member → Member) (ws : List Member) → ((x y : Member) → Contains ws x → Contains ws y → g x ≡ g y → x ≡ y) → AllPairs ◌≢◌ ws → AllPairs ◌≢◌ (map g ws)
once-mapped g [] same once = once-none
once-mapped g (w ∷ ws) same once = once-cons (g w) (map g ws)
    (λ on. let k = elem-mapped g ws (g w) on in once-head w ws once (subst (Contains ws) (same k.0 w (elem-later w k.0 ws k.1) (elem-first w ws) k.2) k.1))
    (once-mapped g ws (λ x y a b. same x y (elem-later w x ws a) (elem-later w y ws b)) (once-tail w ws once))

-- ---- places renumbered

module _ (id j : ℕ) where
  pub renumbered-other : (w : Member) → w.chain ≢ id → renumbered_member id j w ≡ w
  renumbered-other w ne = λ i. record { chain = w.chain; version = cond (ne_eqb w.chain id ne i) (number_after_removal j w.version) w.version; position = w.position }

  renumbered-this : (w : Member) → w.chain ≡ id → renumbered_member id j w ≡ record { chain = w.chain; version = number_after_removal j w.version; position = w.position }
  renumbered-this w e = λ i. record { chain = w.chain; version = cond (eq-eqb w.chain id e i) (number_after_removal j w.version) w.version; position = w.position }

module _ (m n : Memory) (id j : ℕ) (k : KeptChain) (v : Version) (there : chain_at m id ≡ Some k) (number : IsVersionAt k.chain.versions j v) (is : n.chains ≡ on_chain id (on_shown (shown_without j)) m.chains) (list : n.recency ≡ map (renumbered_member id j) m.recency)
    (h : IsRecency m) (free : (at : Option Pos) → Contains m.recency (member_at id j at) → ⊥) (below : k.chain.updating ≡ true → suc j < length k.chain.versions) where
  never : (w : Member) → Contains m.recency w → w.chain ≡ id → w.version ≢ j
  never w on e s = free w.position (subst (Contains m.recency) (λ i. record { chain = e i; version = s i; position = w.position }) on)

  one_name : (x y : Member) → Contains m.recency x → Contains m.recency y → renumbered_member id j x ≡ renumbered_member id j y → x ≡ y
  one_name x y on_x on_y e = let chain : x.chain ≡ y.chain = ap (λ (w : Member). w.chain) e in let position : x.position ≡ y.position = ap (λ (w : Member). w.position) e in
      elim (decided x.chain id) [
        | inr ne ↦ sym (renumbered-other id j x ne) ∙ e ∙ renumbered-other id j y (λ c. ne (chain ∙ c))
        | inl c ↦ let version : number_after_removal j x.version ≡ number_after_removal j y.version = ap (λ (w : Member). w.version) (sym (renumbered-this id j x c) ∙ e ∙ renumbered-this id j y (sym chain ∙ c)) in
            let same = renumbered-once j x.version y.version (never x on_x c) (never y on_y (sym chain ∙ c)) version in
            λ i. record { chain = chain i; version = same i; position = position i }
      ]

  low : j < length k.chain.versions
  low = number-low k.chain.versions j v number

  left : all_but j k.chain.versions ≡ number.older ++ number.newer
  left = ap (λ l. all_but j l) number.split ∙ all-but-is number.older v number.newer j number.number

  -- what was the newest is it still, by its number then
  newest : (x i : ℕ) → x ≢ j → number_after_removal j x ≡ i → k.chain.updating ≡ true → suc i ≡ length (all_but j k.chain.versions) → suc x ≡ length k.chain.versions
  newest x i ne e u last = below_or_above x j ne (suc x ≡ length k.chain.versions)
      (λ l. absurd (omega (arith, e, last, l, (renumbered-less j x ne).0 l, length-but j k.chain.versions low, below u)))
      (λ l. omega (arith, e, last, (renumbered-less j x ne).1 l, length-but j k.chain.versions low))

  newest-now : (x i : ℕ) → x ≢ j → number_after_removal j x ≡ i → k.chain.updating ≡ true → suc x ≡ length k.chain.versions → suc i ≡ length (all_but j k.chain.versions)
  newest-now x i ne e u last = below_or_above x j ne (suc i ≡ length (all_but j k.chain.versions))
      (λ l. absurd (omega (arith, last, l, below u)))
      (λ l. omega (arith, e, last, (renumbered-less j x ne).1 l, length-but j k.chain.versions low))

  pub rule-fewer : IsRecency n
  rule-fewer = rule-put m n id (Some (on_shown (shown_without j) k)) (is ∙ ap (λ o. put_at_number id (option_map (on_shown (shown_without j)) o) m.chains) there)
      (subst (AllPairs ◌≢◌) (sym list) (once-mapped (renumbered_member id j) m.recency one_name h.once))
      (λ w ne on. let x = elem-mapped (renumbered_member id j) m.recency w (subst (λ l. Contains l w) list on) in
      subst (Contains m.recency) (sym (renumbered-other id j x.0 (λ c. ne (sym (ap (λ (y : Member). y.chain) x.2) ∙ c))) ∙ x.2) x.1)
      (λ w ne on. subst (λ l. Contains l w) (sym list) (subst (Contains (map (renumbered_member id j) m.recency)) (renumbered-other id j w ne) (elem-map (renumbered_member id j) m.recency w on)))
      (λ i at on. may i at (elem-mapped (renumbered_member id j) m.recency (member_at id i at) (subst (λ l. Contains l (member_at id i at)) list on)))
      (λ i at p. subst (λ l. Contains l (member_at id i at)) (sym list) (must i at p))
      h
    where
      may : (i : ℕ) (at : Option Pos) → (x : Member) × Contains m.recency x × (renumbered_member id j x ≡ member_at id i at) → MayBeListed (shown_without j k.chain) i at
      may i at x =
          let chain : x.0.chain ≡ id = ap (λ (y : Member). y.chain) x.2 in let position : x.0.position ≡ at = ap (λ (y : Member). y.position) x.2 in
          let version : number_after_removal j x.0.version ≡ i = ap (λ (y : Member). y.version) (sym (renumbered-this id j x.0 chain) ∙ x.2) in
          let ne = never x.0 x.1 chain in
          let p = at_there (λ y. MayBeListed y.chain x.0.version at) (chain_at m id) k (h.members (member_at id x.0.version at) (subst (Contains m.recency) (λ t. record { chain = chain t; version = x.0.version; position = position t }) x.1)) there in
          record {
            cached = p.cached;
            version = p.version;
            number = subst (λ vs. IsVersionAt vs i p.version) (sym left) (subst (λ y. IsVersionAt (number.older ++ number.newer) y p.version) ((λ t. number_after_removal (number.number t) (p.number.number t)) ∙ version)
                (without-at number.older number.newer v p.version p.number.older p.number.newer (sym number.split ∙ p.number.split) (λ e. ne (sym p.number.number ∙ e ∙ number.number))));
            object = p.object;
            settled = λ u. p.settled (u.0, newest x.0.version i ne version u.0 u.1);
          }

      must : (i : ℕ) (at : Option Pos) → MustBeListed (shown_without j k.chain) i at → Contains (map (renumbered_member id j) m.recency) (member_at id i at)
      must i at p =
          let here : IsVersionAt (number.older ++ number.newer) i p.version = subst (λ vs. IsVersionAt vs i p.version) left p.number in
          let was = back-at number.older number.newer v p.version here.older here.newer here.split in
          let ne : was.0 ≢ j = λ e. was.2 (e ∙ sym number.number) in
          let version : number_after_removal j was.0 ≡ i = ap (λ y. number_after_removal y was.0) (sym number.number) ∙ was.3 ∙ here.number in
          let on = h.complete (member_at id was.0 at) (there_at (λ y. MustBeListed y.chain was.0 at) (chain_at m id) k (record {
            cached = p.cached;
            version = p.version;
            number = subst (λ vs. IsVersionAt vs was.0 p.version) (sym number.split) was.1;
            object = p.object;
            inner = p.inner;
            passed = λ u. p.passed (u.0, newest-now was.0 i ne version u.0 u.1);
          }) there) in
          subst (Contains (map (renumbered_member id j) m.recency)) (renumbered-this id j (member_at id was.0 at) refl ∙ (λ t. member_at id (version t) at)) (elem-map (renumbered_member id j) m.recency (member_at id was.0 at) on)
