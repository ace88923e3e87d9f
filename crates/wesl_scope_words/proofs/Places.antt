-- The identifier at a place is the one with that place.
use Rattle.std.proofs.Common.{◌≡◌, ℕ, suc, ◌+◌, List, [], ◌∷◌, ◌++◌, length, get_or, arith, refl, sym, ap, ap₂, ◌∙◌, subst, append_assoc, append-nil}
use Rattle.std.specs.Prelude.{None, false}
use Rattle.std.proofs.Math.Seq.{get_or-append_seam}
use Rattle.std.proofs.lemmas.List.{length-append}
use Rattle.wesl_tree_syntax.specs.Tree.{Forest, end, tree, ident, identifiers}
use Rattle.wesl_tree_syntax.specs.Unit.{UnitView, forest_of_unit, trees_of}
use Rattle.wesl_scope_occurrences.specs.Occurrences.{Block, Node, Occurrence, after_field, blocks_at, blocks_in, count, here_in, node_of, occurrences, occurrences_from, opened_by, plain}
use Rattle.wesl_scope_occurrences.proofs.Joined.{Each, Each-append}
use Rattle.wesl_scope_words.specs.Captured.{number_in}

-- it has that number in this list
abbrev StandsAt : List ℕ → Occurrence ℕ → Type 0
StandsAt ns o = get_or ns o.place 0 ≡ o.name

counted : (f : Forest) → length (identifiers f) ≡ count f
counted end = refl
counted (tree (ident r x) children others) = ap suc (counted others)
counted (tree l children others) = length-append (identifiers children) (identifiers others) ∙ ap₂ (λ a b. a + b) (counted children) (counted others)

standing : (pre post : List ℕ) (node : Node Block) (p q : ℕ) (f : Forest) → p ≡ length pre → Each (StandsAt (pre ++ (identifiers f ++ post))) (occurrences_from node p q f)
standing pre post node p q end h = tt
standing pre post node p q (tree (ident r x) children others) h = (
  ap (λ n. get_or (pre ++ x ∷ (identifiers others ++ post)) n 0) h ∙ get_or-append_seam pre x (identifiers others ++ post) 0,
  subst (λ l. Each (StandsAt l) (occurrences_from (after_field node) (suc p) q others)) (append_assoc pre (x ∷ []) (identifiers others ++ post))
      (standing (pre ++ x ∷ []) post (after_field node) (suc p) q others (omega (arith, h, length-append pre (x ∷ [])))),
)
standing pre post node p q (tree l children others) h =
    let inner = occurrences_from (node_of l children (blocks_at q (here_in node).block) (here_in node)) p (q + opened_by l) children in
    let more = occurrences_from (after_field node) (p + count children) (q + opened_by l + blocks_in children) others in
    let all = pre ++ ((identifiers children ++ identifiers others) ++ post) in
    let regrouped = append_assoc (identifiers children) (identifiers others) post in
    Each-append (StandsAt all) inner more
    (subst (λ z. Each (StandsAt (pre ++ z)) inner) (sym regrouped) (standing pre (identifiers others ++ post) (node_of l children (blocks_at q (here_in node).block) (here_in node)) p (q + opened_by l) children h))
    (subst (λ z. Each (StandsAt z) more) (append_assoc pre (identifiers children) (identifiers others ++ post) ∙ ap (λ z. pre ++ z) (sym regrouped))
    (standing (pre ++ identifiers children) post (after_field node) (p + count children) (q + opened_by l + blocks_in children) others (omega (arith, h, counted children, length-append pre (identifiers children)))))

pub each_stands : (u : UnitView) → Each (λ o. number_in u o.place ≡ o.name) (occurrences (trees_of u))
each_stands u =
    subst (λ l. Each (StandsAt l) (occurrences (trees_of u))) (append-nil (identifiers (forest_of_unit (trees_of u))))
    (standing [] [] (plain (record { block = []; held_block = []; is_local = false; declaration = None; words = false; excused = false })) 0 1 (forest_of_unit (trees_of u)) refl)
