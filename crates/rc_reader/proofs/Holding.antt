-- What is left to a reader while its stream and its work go on.
use Rattle.std.specs.Prelude.{◌≡◌, ◌<◌, ◌≤◌, ℕ, true, false, IsSome, is_some, List, ◌++◌, length, Option, Some, None}
use Rattle.std.proofs.Common.{refl, sym, ap, ◌∙◌, subst, append-nil, arith, inl, inr}
use Rattle.std.specs.Option.{option_to_list}
use Rattle.rc_position.specs.declared.positions.Pos.{Pos}
use Rattle.rc_position.specs.declared.slices.Slice.{Slice}
use Rattle.rc_mutation.specs.declared.fragments.Frag.{Frag}
use Rattle.rc_mutation.specs.declared.fragments.Head.{Head}
use Rattle.rc_query.specs.declared.lines.OutLine.{OutLine}
use Rattle.rc_query.specs.Compacting.{compacted_all, compacted_lines}
use Rattle.rc_stream.specs.Did.{ReachesEnd}
use Rattle.rc_stream.specs.Places.{Reaches}
use Rattle.rc_stream.specs.Showing.{ShowsOne}
use Rattle.rc_stream.specs.Stream.{Stream, first_upto, rest, sought_stream, took}
use Rattle.rc_reader.specs.Left.{Remains, LeavesOne, lines_before, slice_lines, until}
use Rattle.rc_reader.specs.Steps.{AreFoundBefore, GoesNoFurther}
use Rattle.rc_reader.specs.declared.work.Work.{Work}
use Rattle.rc_reader.proofs.Putting.{first-is, near, none-left}

abbrev pub Seen : Type 1
Seen = Stream → Type 0

-- ---- the stream alone goes on

pub left-on : (P Q : Seen) (w : Work) → ((s : Stream) → P s → Q s) → (lines : List OutLine) → Remains P w lines → Remains Q w lines
left-on P Q w on lines h = record { stream = h.stream; stands = on h.stream h.stands; are = h.are }

pub goes-on : (P Q : Seen) (w : Work) → ((s : Stream) → P s → Q s) → (y : Pos) (n : ℕ) → GoesNoFurther P w n y → GoesNoFurther Q w n y
goes-on P Q w on y n (inl r) = inl r
goes-on P Q w on y n (inr h) = inr (h.0, on h.0 h.1, h.2)

-- ---- the work alone goes on

pub left-put : (P : Seen) (w v : Work) → ((fs : List Frag) → lines_before w.to v fs ≡ lines_before w.to w fs) → v.to ≡ w.to → (lines : List OutLine) → Remains P w lines → Remains P v lines
left-put P w v same to lines h = record {
  stream = h.stream;
  stands = h.stands;
  are = h.are ∙ sym (same h.stream.left) ∙ ap (λ x. lines_before x v h.stream.left) (sym to);
}

pub goes-put : (P : Seen) (w v : Work) → ((x : Pos) (fs : List Frag) → length w.lines.items < length (lines_before x w fs) → lines_before x v fs ≡ lines_before x w fs) → v.to ≡ w.to →
    (y : Pos) (n : ℕ) → length w.lines.items ≤ n → GoesNoFurther P w n y → GoesNoFurther P v n y
goes-put P w v same to y n few (inl r) = inl (subst (λ x. Reaches x y) (sym to) r)
goes-put P w v same to y n few (inr h) = inr (h.0, h.1, subst (λ ls. n < length ls) (sym (same y h.0.left (omega (arith, few, h.2)))) h.2)

-- ---- the stream is asked for its next

-- a work with what the stream gave, where nothing was taken
pub record HasGot (w v : Work) (got : Option Frag) : Type 0 where
  pub idle : w.taken ≡ None
  pub taken : v.taken ≡ got
  pub compactor : v.compactor ≡ w.compactor
  pub lines : v.lines.items ≡ w.lines.items
  pub to : v.to ≡ w.to

-- what is left of fragments behind what was given
abbrev behind : Option Frag → List Frag → List Frag
behind None fs = fs
behind (Some f) fs = rest fs

split : (x : Pos) (got : Option Frag) (fs : List Frag) → got ≡ first_upto x fs → fs ≡ option_to_list got ++ behind got fs
split x None fs e = refl
split x (Some f) fs e = first-is x f fs e

took-left : (got : Option Frag) (s : Stream) → (took got s).left ≡ behind got s.left
took-left None s = refl
took-left (Some f) s = refl

got-lines : (w v : Work) (got : Option Frag) → HasGot w v got → (x : Pos) (s : Stream) → got ≡ first_upto w.to s.left → lines_before x w s.left ≡ lines_before x v (took got s).left
got-lines w v got t x s first =
    (λ i. w.lines.items ++ compacted_lines w.compactor.0.pt w.compactor.1 (until x (option_to_list (t.idle i) ++ split w.to got s.left first i)))
    ∙ sym (λ i. t.lines i ++ compacted_lines (t.compactor i).0.pt (t.compactor i).1 (until x (option_to_list (t.taken i) ++ took-left got s i)))

module _ (P Q : Seen) (w v : Work) (got : Option Frag) (t : HasGot w v got) (first : (s : Stream) → P s → got ≡ first_upto w.to s.left) (on : (s : Stream) → P s → Q (took got s)) where
  pub left-got : (lines : List OutLine) → Remains P w lines → Remains Q v lines
  left-got lines h = record {
    stream = took got h.stream;
    stands = on h.stream h.stands;
    are = h.are ∙ got-lines w v got t w.to h.stream (first h.stream h.stands) ∙ ap (λ x. lines_before x v (took got h.stream).left) (sym t.to);
  }

  pub goes-got : (y : Pos) (n : ℕ) → GoesNoFurther P w n y → GoesNoFurther Q v n y
  goes-got y n (inl r) = inl (subst (λ x. Reaches x y) (sym t.to) r)
  goes-got y n (inr h) = inr (took got h.0, on h.0 h.1, subst (λ ls. n < length ls) (got-lines w v got t y h.0 (first h.0 h.1)) h.2)

-- none is left up to the end of the slice
none-there : (got : Option Frag) → is_some got ≡ false → got ≡ None
none-there None e = refl
none-there (Some f) e = absurd (cc)

pub ended : (P : Seen) (w v : Work) (got : Option Frag) → HasGot w v got → is_some v.taken ≡ false → ((s : Stream) → P s → got ≡ first_upto w.to s.left) → (lines : List OutLine) → Remains P w lines → lines ≡ v.lines.items
ended P w v got t none first lines h =
    let nothing : got ≡ None = none-there got (ap is_some (sym t.taken) ∙ none) in
    h.are
    ∙ (λ i. w.lines.items ++ compacted_lines w.compactor.0.pt w.compactor.1 (until w.to (option_to_list (t.idle i) ++ h.stream.left)))
    ∙ ap (λ fs. w.lines.items ++ compacted_lines w.compactor.0.pt w.compactor.1 fs) (none-left w.to h.stream.left (sym nothing ∙ first h.stream h.stands))
    ∙ append-nil w.lines.items
    ∙ sym t.lines

pub is-there : (o : Option Frag) → is_some o ≡ true → IsSome o
is-there None e = absurd (cc)
is-there (Some f) e = refl

pub not-there : (o : Option Frag) → is_some o ≡ false → o ≡ None
not-there o e = none-there o e

pub all-made : (P : Seen) (w : Work) (made : List OutLine) → ((fs : List Frag) → lines_before w.to w fs ≡ made) → (lines : List OutLine) → Remains P w lines → lines ≡ made
all-made P w made is lines h = h.are ∙ is h.stream.left

-- ---- how far the stream is asked

pub reaches-end : (P : Seen) (w : Work) (y : Pos) (n : ℕ) → length w.lines.items ≤ n → GoesNoFurther P w n y → w.taken ≡ None → ReachesEnd P w.to y
reaches-end P w y n few (inl r) idle = inl r
reaches-end P w y n few (inr h) idle =
    inr (
      h.0,
      h.1,
      near w.to y w.compactor.0.pt w.compactor.1 w.lines.items n h.0.left few
          (subst (λ t. n < length (w.lines.items ++ compacted_lines w.compactor.0.pt w.compactor.1 (until y (option_to_list t ++ h.0.left)))) idle h.2),
    )

-- ---- the beginning

-- a work at its beginning, under this head
pub record IsBegun (head : Head) (end : Pos) (w : Work) : Type 0 where
  pub lines : (x : Pos) (fs : List Frag) → lines_before x w fs ≡ compacted_all head (until x fs)
  pub to : w.to ≡ end

begun-lines : (head : Head) (slice : Slice) (w : Work) → IsBegun head slice.to w → (s : Stream) → head ≡ s.head → slice_lines slice s ≡ lines_before w.to w (sought_stream slice.from s).left
begun-lines head slice w b s e =
    ap (λ (h : Head). compacted_all h (until slice.to (sought_stream slice.from s).left)) (sym e)
    ∙ sym (b.lines slice.to (sought_stream slice.from s).left)
    ∙ ap (λ x. lines_before x w (sought_stream slice.from s).left) (sym b.to)

pub left-begun : (P : Seen) (head : Head) (slice : Slice) (w : Work) → IsBegun head slice.to w → (s : Stream) → head ≡ s.head → P (sought_stream slice.from s) → Remains P w (slice_lines slice s)
left-begun P head slice w b s e p = record { stream = sought_stream slice.from s; stands = p; are = begun-lines head slice w b s e }

pub goes-begun : (P Q : Seen) (head : Head) (slice : Slice) (w : Work) → IsBegun head slice.to w → ((s : Stream) → P s → head ≡ s.head) → ((s : Stream) → P s → Q (sought_stream slice.from s)) → (n : ℕ) (y : Pos) → AreFoundBefore P slice n y → GoesNoFurther Q w n y
goes-begun P Q head slice w b same on n y (inl e) = inl (subst (λ x. Reaches x y) (sym b.to) e)
goes-begun P Q head slice w b same on n y (inr h) =
    let left = (sought_stream slice.from h.0).left in
    inr (sought_stream slice.from h.0, on h.0 h.1, subst (λ ls. n < length ls) (ap (λ (k : Head). compacted_all k (until y left)) (sym (same h.0 h.1)) ∙ sym (b.lines y left)) h.2)

pub shown-begun : (might P Q : Seen) (head : Head) (slice : Slice) (w : Work) → IsBegun head slice.to w → ((s : Stream) → P s → Q (sought_stream slice.from s)) → ShowsOne might P head → LeavesOne might slice (Remains Q w)
shown-begun might P Q head slice w b on one = record {
  stream = one.stream;
  possible = one.possible;
  whole = one.whole;
  stay = left-begun Q head slice w b one.stream one.of_it (on one.stream one.stood);
}
