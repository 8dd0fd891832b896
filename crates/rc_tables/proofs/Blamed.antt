-- What a lazy stream names as damaged, and for what it turned out to stand.
use Rattle.std.specs.Prelude.{◌≡◌, ℕ, List, Option, Some, None, Result, Ok, Err, IfErr, IfOk}
use Rattle.std.proofs.Common.{refl, sym, subst}
use Rattle.rc_mutation.specs.declared.fragments.Head.{Head}
use Rattle.rc_mutation.specs.declared.mutations.Mutation.{Mutation}
use Rattle.rc_mutation.specs.Fragments.{fragments}
use Rattle.rc_mutation.specs.Source.{IsMutation}
use Rattle.rc_outside.specs.Files.{Files}
use Rattle.rc_schema.specs.SchemaValue.{SchemaValue}
use Rattle.rc_stream.specs.Showing.{Blames, IsNamed, IsFromStart, ShowsOne}
use Rattle.rc_stream.specs.Stream.{Stream, stream_of}
use Rattle.rc_stream.specs.declared.streams.StreamErr.{StreamErr}
use Rattle.rc_stream.specs.declared.streams.StreamErr.TheVariants.{Fault, Damaged, NoMemory}
use Rattle.rc_tfile.specs.declared.info.TableInfo.{TableInfo}
use Rattle.rc_tables.specs.Streams.{IsFresh, IsRead, Lazy, MayBe, MayBlame, MayRead, SameTables, Settled, IsLazyOf}
use Rattle.rc_tables.specs.Tables.{IsDamageOf}

named_err : (t : Lazy) (e : StreamErr) → IsDamageOf t.schema t.key t.infos e → IsNamed (MayBlame t) e
named_err t Fault d = tt
named_err t (Damaged file offset) d = d
named_err t NoMemory d = tt

named : {X : Type 0} (t : Lazy) (r : Result X StreamErr) → IfErr r (IsDamageOf t.schema t.key t.infos) → IfErr r (IsNamed (MayBlame t))
named t (Ok v) d = tt
named t (Err e) d = named_err t e d

blamed_same : (t u : Lazy) → SameTables t u → (file offset : ℕ) → MayBlame u file offset → MayBlame t file offset
blamed_same t u same file offset d =
    subst (λ (z : SchemaValue). IsDamageOf z t.key t.infos (Damaged file offset)) same.schema
    (subst (λ (k : List ℕ). IsDamageOf u.schema k t.infos (Damaged file offset)) same.key
    (subst (λ (is : List TableInfo). IsDamageOf u.schema u.key is (Damaged file offset)) same.infos d))

-- a call names tables of the set that list the key
pub blames_tables : {X : Type 0} (t u : Lazy) (r : Result X StreamErr) → SameTables t u → IfErr r (IsDamageOf t.schema t.key t.infos) → Blames (MayBlame t) (MayBlame u) r
blames_tables t u r same d = record { named = named t r d; less = blamed_same t u same }

-- what it might stand for is whole
whole_read : (schema : SchemaValue) (infos : List TableInfo) (key : List ℕ) (read : Option Stream) (s : Stream) → ((m : Mutation) → IsMutation m → IsFromStart (stream_of (fragments m))) → ((z : Stream) → read ≡ Some z → IsFromStart z) → MayRead schema infos key read s → IsFromStart s
whole_read schema infos key None s law fresh is = subst IsFromStart (sym is.fragments) (law is.join is.mutation)
whole_read schema infos key (Some z) s law fresh is = subst IsFromStart (sym is) (fresh z refl)

reads : (files : Option Files) (schema : SchemaValue) (infos : List TableInfo) (key : List ℕ) (read : Option Stream) (s : Stream) → read ≡ Some s → IsRead files schema infos key read s
reads files schema infos key read s e = subst (λ (o : Option Stream). IsRead files schema infos key o s) (sym e) refl

may_read : (schema : SchemaValue) (infos : List TableInfo) (key : List ℕ) (read : Option Stream) (s : Stream) → read ≡ Some s → MayRead schema infos key read s
may_read schema infos key read s e = subst (λ (o : Option Stream). MayRead schema infos key o s) (sym e) refl

module _ (law : (m : Mutation) → IsMutation m → IsFromStart (stream_of (fragments m))) where
  -- the head that was answered shows what was read
  pub shown_read : (files : Option Files) (t u : Lazy) (r : Result Head StreamErr) → IsFresh t → IfOk r (λ head. (s : Stream) × Settled t u s s × (head ≡ s.head)) → IfOk r (ShowsOne (MayBe t) (IsLazyOf files u))
  shown_read files t u (Ok head) fresh is = record {
    stream = is.0;
    possible = is.1.might;
    whole = whole_read t.schema t.infos t.key t.read is.0 law fresh is.1.might;
    stood = reads files u.schema u.infos u.key u.read is.0 is.1.read;
    of_it = is.2;
  }
  shown_read files t u (Err e) fresh is = tt

  pub fresh_on : (t u : Lazy) → IsFresh t → ((s : Stream) → MayBe u s → MayBe t s) → IsFresh u
  fresh_on t u fresh might s e = whole_read t.schema t.infos t.key t.read s law fresh (might s (may_read u.schema u.infos u.key u.read s e))
