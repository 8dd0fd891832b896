-- What a joined partition tombstone does to that of the versions.
use Rattle.std.specs.Prelude.{◌≡◌, List, [], ◌∷◌, ◌++◌, Option, Some}
use Rattle.std.proofs.Common.{refl, sym, ap, ◌∙◌}
use Rattle.std.proofs.lemmas.List.{append_assoc}
use Rattle.std.specs.Option.{option_to_list}
use Rattle.rc_cell.specs.declared.writes.Tomb.{Tomb}
use Rattle.rc_cell.specs.Orders.{tomb_cmp, tomb_cmp_total}
use Rattle.rc_cell.specs.laws.Beats.{tomb_cmp-IsAntisymmetric}
use Rattle.rc_cell.specs.Greatest.{greater}
use Rattle.rc_cell.specs.laws.Greatest.{greatest-two, greatest-swap}
use Rattle.rc_cell.specs.Winner.{greatest}
use Rattle.rc_core.specs.Version.{Version}
use Rattle.rc_core.specs.Continuity.{version_tombs}
use Rattle.rc_core.specs.Steps.{join_pt}
use Rattle.rc_core.specs.laws.Losing.{tomb-alone}
use Rattle.rc_core.specs.laws.Merging.{tombs_by_parts, pts_one}

-- a tombstone joined in the midst of others is joined to all
joined_within : (front back : List Tomb) (old : Option Tomb) (t : Tomb) → greatest tomb_cmp (front ++ (option_to_list (greater tomb_cmp old (Some t)) ++ back)) ≡ greatest tomb_cmp ((front ++ (option_to_list old ++ back)) ++ t ∷ [])
joined_within front back old t =
    tombs_by_parts front (option_to_list (greater tomb_cmp old (Some t)) ++ back) front ((option_to_list old ++ back) ++ t ∷ []) refl
    (tombs_by_parts (option_to_list (greater tomb_cmp old (Some t))) back (option_to_list old ++ t ∷ []) back (tomb-alone (greater tomb_cmp old (Some t)) ∙ sym (greatest-two tomb_cmp_total tomb_cmp-IsAntisymmetric old (Some t))) refl
    ∙ ap (greatest tomb_cmp) (append_assoc (option_to_list old) (t ∷ []) back)
    ∙ tombs_by_parts (option_to_list old) (t ∷ back) (option_to_list old) (back ++ t ∷ []) refl (greatest-swap tomb_cmp_total tomb_cmp-IsAntisymmetric (t ∷ []) back)
    ∙ ap (greatest tomb_cmp) (sym (append_assoc (option_to_list old) back (t ∷ []))))
    ∙ ap (greatest tomb_cmp) (sym (append_assoc front (option_to_list old ++ back) (t ∷ [])))

pub joined-head : (older newer : List Version) (v : Version) (t : Tomb) → greatest tomb_cmp (version_tombs (older ++ join_pt t v ∷ newer)) ≡ greater tomb_cmp (greatest tomb_cmp (version_tombs (older ++ v ∷ newer))) (Some t)
joined-head older newer v t =
    ap (greatest tomb_cmp) (pts_one older newer (join_pt t v))
    ∙ joined_within (version_tombs older) (version_tombs newer) v.pt t
    ∙ ap (λ ts. greatest tomb_cmp (ts ++ t ∷ [])) (sym (pts_one older newer v))
    ∙ tombs_by_parts (version_tombs (older ++ v ∷ newer)) (t ∷ []) (option_to_list (greatest tomb_cmp (version_tombs (older ++ v ∷ newer)))) (t ∷ []) (sym (tomb-alone (greatest tomb_cmp (version_tombs (older ++ v ∷ newer))))) refl
    ∙ greatest-two tomb_cmp_total tomb_cmp-IsAntisymmetric (greatest tomb_cmp (version_tombs (older ++ v ∷ newer))) (Some t)
