-- The parts of a linked unit, one declaration and one module after the other.
use Rattle.std.proofs.Common.{◌≡◌, inl, inr, List, [], ◌∷◌, ◌++◌, map, Contains, refl, sym, subst, ap, ◌∙◌, append_assoc, append-nil}
use Rattle.std.proofs.lemmas.List.{map-append}
use Rattle.std.proofs.lemmas.List.Elements.{Contains-append_cases}
use Rattle.wesl_tree_syntax.specs.Tree.{Tree, TreeOf, ForestOf, forest_of, identifiers, respell_forest}
use Rattle.wesl_link_symbols.proofs.Lists.{contains_nil}
use Rattle.wesl_link_tables.specs.TextsView.{numbering_of_texts as numbering}
use Rattle.wesl_link_assembly.specs.Linked.{shape}
use Rattle.wesl_link_assembly.specs.Views.{Meaning}
use Rattle.wesl_link_assembly.proofs.Replaced.{replaced_twice}
use Rattle.wesl_link_assembly.proofs.SideBySide.{side_by_side, forests_joined, shapes_joined, identifiers_joined}
use Rattle.wesl_link_engine.specs.Linked.{Denotation, Selects, Joins, IsHeld, AreMeanings, AreHeldOf, Placed}
use Rattle.wesl_link_engine.specs.Linked.{Selects as selects, Joins as joins}
use Rattle.wesl_link_engine.specs.Worlds.{Module, tables}
use Rattle.wesl_link_engine.specs.Keeping.{denotation_text, module_of, loaded_modules, modules_in, task_in}
use Rattle.wesl_link_engine.specs.Holding.{declaration_tree, nodes, meanings, IsNamed, AreAlike, AddsPlaced, AddsModule, AreParts}
use Rattle.wesl_link_engine.specs.declared.loaded.LoadedModule.{LoadedModule}
use Rattle.wesl_link_engine.specs.declared.link.Link.{Link}
use Rattle.wesl_link_engine.specs.declared.assemble.Parts.{Parts}
use Rattle.wesl_link_engine.proofs.Lists.{selects_more, joins_more, joins_one}

-- ---- shapes

module _ {I : Type 0} where
  pub identifiers_more : (ts us : List (TreeOf I)) → identifiers (forest_of (ts ++ us)) ≡ identifiers (forest_of ts) ++ identifiers (forest_of us)
  identifiers_more ts us = ap identifiers (forests_joined ts us) ∙ identifiers_joined (forest_of ts) (forest_of us)

  shapes_more : (ts us : List (TreeOf I)) → shape (forest_of (ts ++ us)) ≡ side_by_side (shape (forest_of ts)) (shape (forest_of us))
  shapes_more ts us = ap shape (forests_joined ts us) ∙ shapes_joined (forest_of ts) (forest_of us)

pub shape_replaced : {I J : Type 0} (g : I → J) (f : ForestOf I) → shape (respell_forest g f) ≡ shape f
shape_replaced g f = sym (replaced_twice g (λ j. tt) (λ i. tt) (λ x. refl) f)

alike_more : (ts us : List Tree) (ds es : List Placed) → AreAlike ts ds → AreAlike us es → AreAlike (ts ++ us) (ds ++ es)
alike_more ts us ds es a b =
    let tree_in = λ (d : Placed). d.declaration in
    shapes_more ts us
    ∙ (ap (λ x. side_by_side x (shape (forest_of us))) a
    ∙ (ap (λ x. side_by_side (shape (forest_of (map tree_in ds))) x) b
    ∙ (sym (shapes_more (map tree_in ds) (map tree_in es)) ∙ ap (λ ts. shape (forest_of ts)) (sym (map-append tree_in ds es)))))

-- ---- declarations

module _ (l : Link) where
  abbrev Holds : Placed → Type 0
  Holds = IsHeld (tables (modules_in l)) (task_in l)

  abbrev Means : Placed → List Denotation → Type 0
  Means = AreMeanings (tables (modules_in l))

  abbrev texts_of : Meaning → Denotation
  texts_of = denotation_text (numbering l.numbers)

  pub adds_none : (p : Parts) → AddsPlaced l [] p p
  adds_none p = record {
    added = [];
    held = [];
    meant = [];
    declarations = sym (append-nil (nodes p));
    denotations = sym (append-nil (meanings p));
    holds = selects.none;
    means = joins.none;
    named = λ d c. absurd (contains_nil d c);
    alike = refl;
  }

  module _ (all : List Placed) (p q : Parts) (d : Placed) (s : AddsPlaced l all p q) where
    pub adds_not : (IsHeld (tables (modules_in l)) (task_in l) d → ⊥) → AddsPlaced l (all ++ d ∷ []) p q
    adds_not out = record {
      added = s.added;
      held = s.held;
      meant = s.meant;
      declarations = s.declarations;
      denotations = s.denotations;
      holds = subst (λ (ys : List Placed). Selects Holds (all ++ d ∷ []) ys) (append-nil s.held) (selects_more Holds all (d ∷ []) s.held [] s.holds (selects.left d [] [] out selects.none));
      means = s.means;
      named = s.named;
      alike = s.alike;
    }

    pub adds_one : (r : Parts) (t : Tree) (ms : List Meaning) → IsHeld (tables (modules_in l)) (task_in l) d → AreAlike (t ∷ []) (d ∷ []) → nodes r ≡ nodes q ++ t ∷ [] → meanings r ≡ meanings q ++ ms
        → AreMeanings (tables (modules_in l)) d (map (denotation_text (numbering l.numbers)) ms) → ((m : Meaning) → Contains ms m → IsNamed (numbering l.numbers) m) → AddsPlaced l (all ++ d ∷ []) p r
    adds_one r t ms held alike decls denots meant named = record {
      added = s.added ++ t ∷ [];
      held = s.held ++ d ∷ [];
      meant = s.meant ++ ms;
      declarations = decls ∙ (ap (λ y. y ++ t ∷ []) s.declarations ∙ append_assoc (nodes p) s.added (t ∷ []));
      denotations = denots ∙ (ap (λ y. y ++ ms) s.denotations ∙ append_assoc (meanings p) s.meant ms);
      holds = selects_more Holds all (d ∷ []) s.held (d ∷ []) s.holds (selects.taken d [] [] held selects.none);
      means = subst (λ (ys : List Denotation). Joins Means (s.held ++ d ∷ []) ys) (sym (map-append texts_of s.meant ms))
          (joins_more Means s.held (d ∷ []) (map texts_of s.meant) (map texts_of ms) s.means (joins_one Means d (map texts_of ms) meant));
      named = λ m c. elim (Contains-append_cases s.meant ms m c) [ inl h ↦ s.named m h | inr h ↦ named m h ];
      alike = alike_more s.added (t ∷ []) s.held (d ∷ []) s.alike alike;
    }

  -- ---- modules

  module _ (words : List Meaning) where
    abbrev HoldsOf : Module → List Placed → Type 0
    HoldsOf = AreHeldOf (tables (modules_in l)) (task_in l)

    pub parts_none : (p : Parts) → p.declarations.items ≡ [] → meanings p ≡ words → AreParts l [] words p
    parts_none p none is = record {
      held = [];
      meant = [];
      denotations = is ∙ sym (append-nil words);
      holds = joins.none;
      means = joins.none;
      named = λ d c. absurd (contains_nil d c);
      alike = ap (λ ds. shape (forest_of (map declaration_tree ds))) none;
    }

    pub parts_more : (ms : List LoadedModule) (m : LoadedModule) (p q : Parts) → AreParts l ms words p → AddsModule l m p q → AreParts l (ms ++ m ∷ []) words q
    parts_more ms m p q s a = record {
      held = s.held ++ a.held;
      meant = s.meant ++ a.meant;
      denotations = a.denotations ∙ (ap (λ y. y ++ a.meant) s.denotations ∙ append_assoc words s.meant a.meant);
      holds = subst (λ (ns : List Module). Joins HoldsOf ns (s.held ++ a.held)) (sym (map-append module_of ms (m ∷ [])))
          (joins_more HoldsOf (loaded_modules ms) (module_of m ∷ []) s.held a.held s.holds (joins_one HoldsOf (module_of m) a.held a.holds));
      means = subst (λ (ys : List Denotation). Joins Means (s.held ++ a.held) ys) (sym (map-append texts_of s.meant a.meant))
          (joins_more Means s.held a.held (map texts_of s.meant) (map texts_of a.meant) s.means a.means);
      named = λ d c. elim (Contains-append_cases s.meant a.meant d c) [ inl h ↦ s.named d h | inr h ↦ a.named d h ];
      alike = subst (λ (ts : List Tree). AreAlike ts (s.held ++ a.held)) (sym a.declarations) (alike_more (nodes p) a.added s.held a.held s.alike a.alike);
    }
