-- How many bytes objects take.
use Rattle.std.proofs.Common.{ℕ, ◌≤◌, arith}
use Rattle.lsa_kinds.specs.declared.kind.Kind.{Kind}
use Rattle.lsa_kinds.specs.declared.kind.Kind.TheVariants.{Version, RowEntry, Dummy, Static}
use Rattle.lsa_store.specs.Objects.{rounded_size}

-- an object takes its header and three links at least
pub rounded_32 : (kind : Kind) (len : ℕ) → 32 ≤ rounded_size kind len
rounded_32 Version len = omega arith
rounded_32 RowEntry len = omega arith
rounded_32 Dummy len = omega arith
rounded_32 Static len = omega arith
