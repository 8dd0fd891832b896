-- The stream of what a memtable has of a partition, as it is made.
use Rattle.std.proofs.Common.{◌≡◌, List, Option, Some, None, MatchOption, subst}
use Rattle.std.specs.Option.{IfSome}
use Rattle.rc_mutation.specs.declared.mutations.Mutation.{Mutation}
use Rattle.rc_mutation.specs.Fragments.{fragments}
use Rattle.rc_mutation.specs.Source.{IsJoinOf, IsMutation}
use Rattle.rc_memory.specs.Memory.{Memory}
use Rattle.rc_chain.specs.declared.chains.Snap.{Snap}
use Rattle.rc_stream.specs.Stream.{stream_of}
use Rattle.rc_snapshots.specs.Streams.{IsNewStream, IsOf, SeesChanges}
use Rattle.rc_snapshots.specs.Seeing.{SeesAllOf}
use Rattle.rc_opened.specs.Written.{IsNewStreamOf, IsStreamOf, OfSnapshot, nothing_said}
use Rattle.rc_opened.proofs.Saying.{says_nothing}

pub ready : (P : OfSnapshot → Type 0) (changes : List Mutation) (m : Memory) → ((s : Snap) (r : OfSnapshot) → IsNewStream s r → SeesChanges changes m s → P r) → (snap : Option Snap) (r : Option OfSnapshot) → IsNewStreamOf snap r → SeesAllOf changes m snap → IfSome r P
ready P changes m law None None new sees = tt
ready P changes m law None (Some r) new sees = absurd new
ready P changes m law (Some s) None new sees = absurd new
ready P changes m law (Some s) (Some r) new sees = law s r new sees

pub seen : (P : OfSnapshot → Type 0) (changes : List Mutation) (a : Mutation) (m : Memory) → IsMutation a → IsJoinOf a changes → ((s : Snap) (r : OfSnapshot) → IsNewStream s r → SeesChanges changes m s → P r) → (snap : Option Snap) (r : Option OfSnapshot) → IsNewStreamOf snap r → SeesAllOf changes m snap → MatchOption r (stream_of (fragments a) ≡ nothing_said) P
seen P changes a m is j law None None new sees = says_nothing a is (subst (IsJoinOf a) sees j)
seen P changes a m is j law None (Some r) new sees = absurd new
seen P changes a m is j law (Some s) None new sees = absurd new
seen P changes a m is j law (Some s) (Some r) new sees = law s r new sees

pub of : ((s : Snap) (r : OfSnapshot) → IsNewStream s r → IsOf s r) → (snap : Option Snap) (r : Option OfSnapshot) → IsNewStreamOf snap r → IsStreamOf snap r
of law None None new = new
of law None (Some r) new = absurd new
of law (Some s) None new = absurd new
of law (Some s) (Some r) new = law s r new
