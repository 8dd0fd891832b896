-- What a change of links of some roles leaves of those of another role.
use Rattle.std.proofs.Common.{◌≡◌, ◌≢◌, ℕ, List, Option, Some, None, sym, ap, ◌∙◌, subst}
use Rattle.std.specs.Prelude.{IfSome}
use Rattle.lsa_region.specs.Ref.{Ref}
use Rattle.lsa_region.specs.declared.end.End.{End}
use Rattle.lsa_region.specs.Region.{View, link_of}
use Rattle.lsa_path.specs.Path.{IsPath, AllOnward, IsInserted, IsTakenOut}
use Rattle.lsa_path.specs.Roles.{Role, role_at}
use Rattle.lsa_path.specs.laws.Paths.{all_map, path-same}

-- ends of different roles are different
pub roles-differ : (v : View) (role : Role) (e d : End) → role_at v e ≡ role → role_at v d ≢ role → e ≢ d
roles-differ v role e d has hasnt same = hasnt (ap (role_at v) (sym same) ∙ has)

mate_role : (v : View) (role : Role) (o : Option End) → IfSome o (λ e. role_at v e ≢ role) → (e : End) → o ≡ Some e → role_at v e ≢ role
mate_role v role None h e is = absurd (let clash : None ≡ Some e = is in cc)
mate_role v role (Some d) h e is = subst (λ (x : Option End). IfSome x (λ z. role_at v z ≢ role)) is h

module _ (v : View) (new : End → Option End) (role : Role) where
  -- one inserted among links of other roles
  pub inserted-role : (a first second : End) → IsInserted (link_of v) new a first second → role_at v a ≢ role → role_at v first ≢ role → role_at v second ≢ role → IfSome (link_of v a) (λ e. role_at v e ≢ role)
      → (e : End) → role_at v e ≡ role → new e ≡ link_of v e
  inserted-role a first second ins at_a at_first at_second at_mate e has =
      ins.others e (roles-differ v role e a has at_a) (roles-differ v role e first has at_first) (roles-differ v role e second has at_second) (λ is. mate_role v role (link_of v a) at_mate e is has)

  -- one taken out of links of other roles
  pub taken-role : (first second : End) → IsTakenOut (link_of v) new first second → role_at v first ≢ role → role_at v second ≢ role → IfSome (link_of v first) (λ e. role_at v e ≢ role) → IfSome (link_of v second) (λ e. role_at v e ≢ role)
      → (e : End) → role_at v e ≡ role → new e ≡ link_of v e
  taken-role first second out at_first at_second before behind e has =
      out.others e (roles-differ v role e first has at_first) (roles-differ v role e second has at_second) (λ is. mate_role v role (link_of v first) before e is has) (λ is. mate_role v role (link_of v second) behind e is has)

  -- a path left by links of the role
  pub path-role : (i o : ℕ) (s : End) (xs : List Ref) (f : Option End) → ((e : End) → role_at v e ≡ role → new e ≡ link_of v e) → new s ≡ link_of v s → AllOnward o (λ e. role_at v e ≡ role) xs → IsPath i o (link_of v) s xs f → IsPath i o new s xs f
  path-role i o s xs f same here all p = path-same i o (link_of v) new s xs f here (all_map o (λ e. role_at v e ≡ role) (λ e. new e ≡ link_of v e) xs same all) p
