-- Words are told of each declared name, and of nothing else.
use Rattle.std.proofs.Common.{◌≡◌, ℕ, suc, ◌+◌, Bool, true, false, List, [], ◌∷◌, ◌++◌, length, map, arith, refl, sym, ap, ap₂, ◌∙◌, Option}
use Rattle.std.specs.Prelude.{None, if◌then◌else◌}
use Rattle.std.specs.List.{filter, zip}
use Rattle.std.proofs.lemmas.List.{length-append, map-append}
use Rattle.std.proofs.lemmas.List.Elements.{filter-append}
use Rattle.wesl_tree_names.specs.Path.{Text, Path}
use Rattle.wesl_tree_syntax.specs.Tree.{Forest, end, tree, ident, binder, reference, word}
use Rattle.wesl_tree_syntax.specs.Unit.{UnitOf, forest_of_unit}
use Rattle.wesl_scope_occurrences.specs.Occurrences.{Block, Declares, Node, Occurrence, Surroundings, a_parameter, a_value, after_field, blocks_at, blocks_in, count, declared, globally, here_in, is_binder, local, module_name, node_of, occurrences_from, opened_by, plain, referring}
use Rattle.wesl_scope_words.specs.Captured.{binders}
use Rattle.wesl_scope_words.specs.Free.{EachIsSpoken}
use Rattle.wesl_scope_words.specs.Said.{said, said_of, sayings, words_of}

binds_one : (d : Declares) (here : Surroundings Block) (e : ℕ) → is_binder (declared d here e) ≡ true
binds_one globally here e = refl
binds_one a_parameter here e = refl
binds_one a_value here e = by here.is_local
  where
    by : (t : Bool) → is_binder (if t then local e else module_name) ≡ true
    by true = refl
    by false = refl

binds_none : (t : Bool) (p : Option Path) → is_binder (referring t p) ≡ false
binds_none true p = refl
binds_none false p = refl

abbrev declared_in : List (Occurrence ℕ) → List (Occurrence ℕ)
declared_in = filter (λ o. is_binder o.role)

as_many : (ws : List Text) (node : Node Block) (p q : ℕ) (f : Forest) → length (said ws f) ≡ length (declared_in (occurrences_from node p q f))
as_many ws node p q end = refl
as_many ws node p q (tree (ident binder x) children others) =
    rw (binds_one node.declares (here_in node) (suc p + count others), as_many ws (after_field node) (suc p) q others) refl
as_many ws node p q (tree (ident reference x) children others) =
    rw (binds_none (here_in node).words node.path, as_many ws (after_field node) (suc p) q others) refl
as_many ws node p q (tree (ident word x) children others) = as_many ws (after_field node) (suc p) q others
as_many ws node p q (tree l children others) =
    let inner = occurrences_from (node_of l children (blocks_at q (here_in node).block) (here_in node)) p (q + opened_by l) children in
    let more = occurrences_from (after_field node) (p + count children) (q + opened_by l + blocks_in children) others in
    length-append (said (words_of l children) children) (said ws others)
    ∙ (ap₂ (λ a b. a + b) (as_many (words_of l children) (node_of l children (blocks_at q (here_in node).block) (here_in node)) p (q + opened_by l) children)
    (as_many ws (after_field node) (p + count children) (q + opened_by l + blocks_in children) others)
    ∙ (sym (length-append (declared_in inner) (declared_in more)) ∙ ap length (sym (filter-append (λ o. is_binder o.role) inner more))))

abbrev outside : Surroundings Block
outside = record { block = []; held_block = []; is_local = false; declaration = None; words = false; excused = false }

pub as_many_binders : (u : UnitOf ℕ) → length (sayings u) ≡ length (binders u)
as_many_binders u = as_many [] (plain outside) 0 1 (forest_of_unit u)

zip_append : {A B : Type 0} (ms ns : List A) (xs ys : List B) → length ms ≡ length xs → zip (ms ++ ns) (xs ++ ys) ≡ zip ms xs ++ zip ns ys
zip_append [] ns [] ys h = refl
zip_append [] ns (x ∷ xs) ys h = cc
zip_append (m ∷ ms) ns [] ys h = cc
zip_append (m ∷ ms) ns (x ∷ xs) ys h = ap (λ l. (m, x) ∷ l) (zip_append ms ns xs ys (omega (arith, h)))

abbrev with_name : List Text × Occurrence ℕ → List Text × ℕ
with_name s = (s.0, s.1.name)

paired : (ws : List Text) (node : Node Block) (p q : ℕ) (f : Forest) → map with_name (zip (said ws f) (declared_in (occurrences_from node p q f))) ≡ said_of ws f
paired ws node p q end = refl
paired ws node p q (tree (ident binder x) children others) =
    rw (binds_one node.declares (here_in node) (suc p + count others), paired ws (after_field node) (suc p) q others) refl
paired ws node p q (tree (ident reference x) children others) =
    rw (binds_none (here_in node).words node.path, paired ws (after_field node) (suc p) q others) refl
paired ws node p q (tree (ident word x) children others) = paired ws (after_field node) (suc p) q others
paired ws node p q (tree l children others) =
    let inside = node_of l children (blocks_at q (here_in node).block) (here_in node) in
    let inner = occurrences_from inside p (q + opened_by l) children in
    let more = occurrences_from (after_field node) (p + count children) (q + opened_by l + blocks_in children) others in
    let ms = said (words_of l children) children in
    ap (λ d. map with_name (zip (ms ++ said ws others) d)) (filter-append (λ o. is_binder o.role) inner more)
    ∙ (ap (map with_name) (zip_append ms (said ws others) (declared_in inner) (declared_in more) (as_many (words_of l children) inside p (q + opened_by l) children))
    ∙ (map-append with_name (zip ms (declared_in inner)) (zip (said ws others) (declared_in more))
    ∙ ap₂ (λ a b. a ++ b) (paired (words_of l children) inside p (q + opened_by l) children) (paired ws (after_field node) (p + count children) (q + opened_by l + blocks_in children) others)))

pub each_is_spoken : EachIsSpoken
each_is_spoken u = paired [] (plain outside) 0 1 (forest_of_unit u)
