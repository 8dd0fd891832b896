-- A `&` to the owner of bytes shows each byte that is set. Assumes `Logic`.
use denote.RawPtr.{RawPtr}
use denote.Param.Shared.{copy_shared}
use denote.Struct.Laws.{field_copy}
use denote.Struct.Lending.{of_Lends}
use Rattle.core.specs.contracts.marker.PhantomData as marker
use Rattle.circular_buffer.proofs.Sharing.{cells_lent_laws, Lends-cells}
use denote.Param.Laws.{param_laws}
use Rattle.lsa_segment.specs.Raw.{byte_row}
use Rattle.lsa_segment.specs.contracts.raw.Owned as O
use Rattle.lsa_segment.proofs.Byte.{byte}
use Rattle.lsa_segment.proofs.raw.Owned.TheLaw.Statement.{statement}

pub shares : statement
shares = of_Lends O.struct (O.the_codes (marker.the_row RawPtr).coded) O.the_heap O.the_lent
    (λ d p. cells_lent_laws byte_row (param_laws 0 byte.row byte.laws).shr_laws d.at d.bytes) (copy_shared (marker.the_field RawPtr) (field_copy (marker.the_type RawPtr) tt), tt)
    (λ M 𝓤 𝓛 d p. Lends-cells 𝓛 O.the_row.lives byte_row (param_laws 0 byte.row byte.laws) (λ _ m. m) d.at d.bytes)
