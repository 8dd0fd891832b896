-- What two lists, and the tables of a set behind them, ask for.
use Rattle.std.specs.Prelude.{◌≡◌, ℕ, ◌≤◌, ◌+◌, true, IsSome, IsTrue, Option, Some, None}
use Rattle.std.specs.Option.{is_some}
use Rattle.std.proofs.Common.{refl, sym, ap, ◌∙◌, subst, arith}
use Rattle.std.specs.Cmp.{tied_itself}
use Rattle.std.specs.Ordering.{is_le}
use Rattle.rc_position.specs.declared.positions.Pos.{Pos}
use Rattle.rc_position.specs.laws.Orders.{pos_cmp_total}
use Rattle.rc_stream.specs.Did.{IsQuiet, Spends}
use Rattle.rc_stream.specs.Places.{Reaches}
use Rattle.rc_stream.specs.Stream.{Stream}
use Rattle.rc_tables.specs.Streams.{DidAsk, Lazy, asks_left}

pub reaches_itself : (x : Pos) → Reaches x x
reaches_itself x = ap is_le (tied_itself pos_cmp_total x)

-- what asks nothing of home and store keeps what stands over them
pub kept : {X H W : Type 0} (P : X → H → W → Type 0) (t : X) (h : H) (w : W) (g : H) (v : W) → (h ≡ g) × (w ≡ v) → P t h w → P t g v
kept P t h w g v e r = subst (λ z. P t g z) e.1 (subst (λ z. P t z w) e.0 r)

pub kept_seen : {X H W : Type 0} (P : X → H → W → Stream → Type 0) (t : X) (s : Stream) (h : H) (w : W) (g : H) (v : W) → (h ≡ g) × (w ≡ v) → P t h w s → P t g v s
kept_seen P t s h w g v e r = subst (λ z. P t g z s) e.1 (subst (λ z. P t z w s) e.0 r)

-- a list asks for nothing
pub lists_spend : {S H W : Type 0} (asks : W → ℕ) → Spends {S = S} {H = H} {W = W} (λ s h w c ok t g v. (h ≡ g) × (w ≡ v)) (λ _. 0) asks
lists_spend asks = record {
  answered = λ s h w c t g v e. omega (arith, ap asks e.1);
  refused = λ s h w c t g v e. omega (arith, ap asks e.1);
}

pub lists_are_quiet : {S H W : Type 0} (asks : W → ℕ) → IsQuiet {S = S} {H = H} {W = W} (λ s h w c ok t g v. (h ≡ g) × (w ≡ v)) (λ _. true) asks
lists_are_quiet asks = record {
  quiet = λ s h w c ok t g v q e. (ap asks (sym e.1), refl);
  head = λ s h w t g v e. refl;
}

some_is : {X : Type 0} (o : Option X) → IsSome o → IsTrue (is_some o)
some_is None h = h
some_is (Some x) h = refl

is_there : {X : Type 0} (o : Option X) → IsTrue (is_some o) → IsSome o
is_there None h = h
is_there (Some x) h = refl

-- tables ask for what is left
pub tables_spend : {H W : Type 0} (asks : W → ℕ) → Spends {S = Lazy} {H = H} {W = W} (λ t h w c ok t' g v. DidAsk ok t (asks w) t' (asks v)) asks_left asks
tables_spend asks = record {
  answered = λ s h w c t g v d. d.sum refl;
  refused = λ s h w c t g v d. d.most;
}

pub tables_are_quiet : {H W : Type 0} (asks : W → ℕ) → IsQuiet {S = Lazy} {H = H} {W = W} (λ t h w c ok t' g v. DidAsk ok t (asks w) t' (asks v)) (λ t. is_some t.read) asks
tables_are_quiet asks = record {
  quiet = λ s h w c ok t g v q d. (let p = d.quiet (is_there s.read q) in (p.0, some_is t.read p.1));
  head = λ s h w t g v d. some_is t.read (d.read refl);
}
