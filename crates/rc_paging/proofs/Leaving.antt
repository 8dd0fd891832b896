-- What calls of a cached stream leave of the chains, they leave one after another.
use Rattle.std.proofs.Common.{◌≡◌, refl, sym, subst, ◌∙◌}
use Rattle.rc_core.specs.Chains.{IsPinned}
use Rattle.rc_memory.specs.Memory.{KeptChain, Memory}
use Rattle.rc_filler.specs.Fills.{IsUsedAsBefore}
use Rattle.rc_cached.specs.Leaving.{LeavesChains}

same_use : (k : KeptChain) → IsUsedAsBefore k k
same_use k = record { kind = refl; attached = refl; updating = refl; pins = refl; passed = refl; phases = refl }

use_then : (k l m : KeptChain) → IsUsedAsBefore k l → IsUsedAsBefore l m → IsUsedAsBefore k m
use_then k l m a b = record { kind = b.kind ∙ a.kind; attached = b.attached ∙ a.attached; updating = b.updating ∙ a.updating; pins = b.pins ∙ a.pins; passed = b.passed ∙ a.passed; phases = b.phases ∙ a.phases }

pub leaves_same : (m : Memory) → LeavesChains m m
leaves_same m = record {
  memtables = λ s on. record { pin = on.pin; versions = refl; kind = refl };
  pins = λ id pin on. on;
  pinned = λ id j k e on. (k, e, same_use k);
  absent = λ id e. e;
  segments = refl;
}

pub leaves_then : (m n o : Memory) → LeavesChains m n → LeavesChains n o → LeavesChains m o
leaves_then m n o a b = record {
  memtables = λ s on. (let x = a.memtables s on in let y = b.memtables s (record { pin = x.pin; kind = x.kind ∙ on.kind }) in record { pin = y.pin; versions = y.versions ∙ x.versions; kind = y.kind ∙ x.kind });
  pins = λ id pin on. b.pins id pin (a.pins id pin on);
  pinned = λ id j k e on. (let x = a.pinned id j k e on in let y = b.pinned id j x.0 x.1 (subst (λ pins. IsPinned pins j) (sym x.2.pins) on) in (y.0, y.1, use_then k x.0 y.0 x.2 y.2));
  absent = λ id e. b.absent id (a.absent id e);
  segments = b.segments ∙ a.segments;
}

pub leaves_on : (m n : Memory) → n ≡ m → LeavesChains m n
leaves_on m n e = subst (LeavesChains m) (sym e) (leaves_same m)
