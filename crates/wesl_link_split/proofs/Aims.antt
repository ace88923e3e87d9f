-- The binders of a name that stand together, and paths by their numbers.
use Rattle.std.proofs.Common.{◌≡◌, ℕ, zero, suc, ◌<◌, true, List, [], ◌∷◌, Some, length, get_or, arith, sym, subst, ap, ◌∙◌}
use Rattle.std.specs.Prelude.{Contains, ◌==◌, slice_get}
use Rattle.std.specs.Global.{Vec}
use Rattle.std.proofs.lemmas.Bool.Decides.{Decides-eqb}
use Rattle.wesl_tree_base.specs.declared.ids.NameId.{NameId}
use Rattle.wesl_link_symbols.specs.declared.ids.PathId.{PathId}
use Rattle.wesl_link_split.specs.Grouped.{ids, same_id, AreGrouped}
use Rattle.wesl_link_split.specs.Split as split
use Rattle.wesl_link_split.specs.Split.{Binder}
use Rattle.wesl_link_split.proofs.Grouping.{held_at, id_is, some_at}
use Rattle.wesl_link_split.proofs.Unsplit.{filter_in}

abbrev Ours : Type 0
Ours = Binder PathId NameId

-- ---- the binders that stand together

found_at : {X : Type 0} (xs : List X) (i : ℕ) (x : X) → slice_get xs i ≡ Some x → x ≡ get_or xs i x
found_at [] i x e = absurd (let z : ⊥ = cc in z)
found_at (y ∷ xs) zero x e = let f : y ≡ x = cc in sym f
found_at (y ∷ xs) (suc i) x e = found_at xs i x e

-- they are all of their name
pub group_named : (bs : List Ours) (ns : List NameId) (gs : List (Vec Ours)) → AreGrouped bs ns gs → (i : ℕ) (g : Vec Ours) → i < length gs → g ≡ get_or gs i g → (b : Ours) → Contains g.items b → g.items ≡ split.of_name ids b.bound bs
group_named bs ns gs h i g l at b c =
    let (n, named) = some_at ns i (omega (arith, l, h.long)) in
    let is : g.items ≡ split.of_name ids n bs = h.each i n g named (held_at gs i g l at) in
    let (d, t) = filter_in (λ x. same_id n x.bound) bs b (subst (λ (l : List Ours). Contains l b) is c) in
    is ∙ ap (λ m. split.of_name ids m bs) (id_is n b.bound t)

pub path_id_is : (p q : PathId) → (p.0 == q.0) ≡ true → p ≡ q
path_id_is p q e = ap (λ (k : ℕ). record { 0 = k }) ((Decides-eqb p.0 q.0).0 e)
