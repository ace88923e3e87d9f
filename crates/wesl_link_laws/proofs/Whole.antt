-- A linked unit is faithful exactly where it reads as it is meant.
use Rattle.std.proofs.Common.{◌≡◌, ℕ, List, [], ◌∷◌, map, sym, ap, ◌∙◌, subst, arith, zero, suc}
use Rattle.std.specs.List.{All}
use Rattle.wesl_tree_names.specs.Path.{Text, Path}
use Rattle.wesl_tree_syntax.specs.Tree.{identifiers}
use Rattle.wesl_tree_syntax.specs.Unit.{UnitOf, UnitView, forest_of_unit, trees_of, numbers, name_in}
use Rattle.wesl_tree_syntax.specs.Numbers.{AreNumbers}
use Rattle.wesl_scope_occurrences.specs.Occurrences.{Occurrence, occurrences}
use Rattle.wesl_scope_occurrences.specs.Laws.{OccurrencesAreIdentifiers}
use Rattle.wesl_link_assembly.specs.Denotations.{DenotationOf, free_name}
use Rattle.wesl_link_assembly.specs.Linked.{IsLinkedAs}
use Rattle.wesl_link_assembly.proofs.Replaced.{identifiers_replaced}
use Rattle.wesl_link_laws.specs.ReadAsMeant.{FaithfulReadsAsMeant}
use Rattle.wesl_link_laws.proofs.Meaning.{first_meaning, denoted}
use Rattle.wesl_link_laws.proofs.ReadAs.{reads_as_meant, reads_right}
use Rattle.wesl_scope_numbers.proofs.Canonical.{mapped_twice}

same_first : {X Y : Type 0} (f g : X → Y) (x : X) (xs : List X) → map f (x ∷ xs) ≡ map g (x ∷ xs) → f x ≡ g x
same_first f g x xs e = cc

pub same_each : {X Y : Type 0} (f g : X → Y) (xs : List X) → map f xs ≡ map g xs → All (λ x. f x ≡ g x) xs
same_each f g [] e i d h = absurd (omega (arith, h))
same_each f g (x ∷ xs) e zero d h = same_first f g x xs e
same_each f g (x ∷ xs) e (suc i) d h = same_each f g xs (ap (λ ys. rest_of ys) e) i d (omega (arith, h))
  where
    rest_of : {Y : Type 0} → List Y → List Y
    rest_of [] = []
    rest_of (y ∷ ys) = ys

abbrev Denotation : Type 0
Denotation = DenotationOf Path Text ℕ

-- the names of a linked unit are those that its identifiers are printed as
pub names_printed : (print : Denotation → Text) (nodes : UnitOf Text) (ds : List Denotation) (u : UnitView) → IsLinkedAs print nodes ds u → map (name_in u.names) (numbers u) ≡ map print ds
names_printed print nodes ds u l =
    sym (identifiers_replaced (name_in u.names) (forest_of_unit (trees_of u)))
    ∙ (ap (λ (w : UnitOf Text). identifiers (forest_of_unit w)) l.named
    ∙ (identifiers_replaced print (forest_of_unit l.linked) ∙ ap (map print) l.meanings))

pub faithful_reads : OccurrencesAreIdentifiers → FaithfulReadsAsMeant
faithful_reads identified print nodes ds u l =
    let all = occurrences (trees_of u) in
    let ns : map (λ (o : Occurrence ℕ). o.name) all ≡ numbers u = identified (trees_of u) in
    let numbered : AreNumbers ds (map (λ (o : Occurrence ℕ). o.name) all) = subst (AreNumbers ds) (sym ns) l.numbered in
    let means = first_meaning (free_name []) (numbers u) ds in
    let told : map means (numbers u) ≡ ds = denoted (free_name []) ds (numbers u) l.numbered in (
      λ f. record {
        means = means;
        denoted = told;
        printed = same_each (name_in u.names) (λ n. print (means n)) (numbers u) (names_printed print nodes ds u l ∙ (ap (map print) (sym told) ∙ mapped_twice means print (numbers u)));
        read = reads_as_meant u.names all means ds numbered (ap (map means) ns ∙ told) f;
      },
      λ r. reads_right u.names all r.means ds numbered (ap (map r.means) ns ∙ r.denoted) r.read,
    )
