-- Calls that are gathered from a declaration are those in it.
use Rattle.std.proofs.Common.{◌≡◌, ◌⊎◌, inl, inr, ℕ, zero, suc, ◌+◌, ◌<◌, ◌≤◌, ◌++◌, Bool, true, false, List, [], ◌∷◌, length, map, get_or, take, refl, sym, ap, ◌∙◌, subst, arith, add-one, append_assoc, Bor, Vec, Global}
use Rattle.std.specs.Prelude.{flat_map, if◌then◌else◌}
use Rattle.std.specs.List.{Contains, All}
use Rattle.std.proofs.lemmas.List.{append-nil}
use Rattle.std.proofs.lemmas.Bool.{cases_lt}
use Rattle.std.proofs.lemmas.List.Elements.{All-contains, All-push}
use Rattle.wesl_tree_syntax.specs.Tree.{Label, Forest, Tree, tree, end, before, forest_of, trees, declaration_node}
use Rattle.wesl_tree_syntax.specs.Nodes.{all_nodes, is_expression, is_statement, without_words}
use Rattle.wesl_tree_syntax.specs.Unit.{UnitView}
use Rattle.wesl_tree_syntax.specs.View.{global_view, placed, declarations_tree}
use Rattle.wesl_tree_syntax.specs.declared.span.Spanned.{Spanned}
use Rattle.wesl_tree_syntax.specs.declared.declaration.GlobalDeclaration.{GlobalDeclaration}
use Rattle.wesl_tree_syntax.specs.declared.declaration.GlobalDeclaration.TheVariants as globals
use Rattle.wesl_visit_collect.specs.Sought.{expressions, statements}
use Rattle.wesl_visit_collect.specs.Lent.{views}
use Rattle.wesl_visit_collect.specs.Seen.{inside}
use Rattle.wesl_visit_collect.specs.Walk.{strictly}
use Rattle.wesl_visit_collect.proofs.Joined.{all_found_below}
use Rattle.wesl_validate_builtins.specs.Builtins.{BuiltinNames}
use Rattle.wesl_validate_rules.specs.Calls.{CallOf, called_in, calls_in}
use Rattle.wesl_validate_rules.specs.Valid.{calls_of, AliasesTo, IsEnd, Fits, IsFitting}
use Rattle.wesl_validate_calls.specs.Misfits.{Misses, Passes, MissesIn, MissesAmong}
use Rattle.wesl_validate_calls.specs.Made.{call_told}
use Rattle.wesl_validate_calls.specs.declared.calls.Call.{Call}
use Rattle.wesl_validate_calls.specs.declared.misfit.Misfit.{Misfit}
use Rattle.wesl_validate_calls.proofs.Members.{contains_none, to_mapped}

-- the node itself is none of those that are sought
below_all : (p : Label → Bool) (l : Label) (f : Forest) → p l ≡ false → all_nodes p f ≡ all_nodes p (tree l f end)
below_all p l f e = by (p l) e
  where
    by : (z : Bool) → z ≡ false → all_nodes p f ≡ ((if z then record { label = l; children = f } ∷ [] else []) ++ all_nodes p f) ++ []
    by false q = sym (append-nil (all_nodes p f))
    by true q = absurd (let g : true ≡ false = q in cc)

no_expression : (d : GlobalDeclaration) → is_expression (global_view d).label ≡ false
no_expression globals.Void = refl
no_expression (globals.Declaration x) = refl
no_expression (globals.TypeAlias x) = refl
no_expression (globals.Struct x) = refl
no_expression (globals.Function x) = refl
no_expression (globals.ConstAssert x) = refl

no_statement : (d : GlobalDeclaration) → is_statement (global_view d).label ≡ false
no_statement globals.Void = refl
no_statement (globals.Declaration x) = refl
no_statement (globals.TypeAlias x) = refl
no_statement (globals.Struct x) = refl
no_statement (globals.Function x) = refl
no_statement (globals.ConstAssert x) = refl

-- calls of the expressions, then of the statements
pub gathered : (d : GlobalDeclaration) → flat_map (λ t. called_in t.children) (strictly expressions true (global_view d)) ++ flat_map (λ t. called_in t.children) (strictly statements true (global_view d)) ≡ calls_in (before (global_view d) end)
gathered d =
    let t = global_view d in
    let first : strictly expressions true t ≡ all_nodes is_expression (without_words (before t end)) =
    all_found_below expressions t ∙ below_all is_expression t.label (inside (without_words (before t end))) (no_expression d) in
    let second : strictly statements true t ≡ all_nodes is_statement (before t end) =
    all_found_below statements t ∙ below_all is_statement t.label t.children (no_statement d) in
    ap (λ xs. flat_map (λ n. called_in n.children) xs ++ flat_map (λ n. called_in n.children) (strictly statements true t)) first
    ∙ ap (λ xs. flat_map (λ n. called_in n.children) (all_nodes is_expression (without_words (before t end))) ++ flat_map (λ n. called_in n.children) xs) second

-- a declaration of the list, and one past its end
node_at : (ds : List (Spanned GlobalDeclaration)) (j : ℕ) (d : Spanned GlobalDeclaration) → j < length ds → d ≡ get_or ds j d → before (global_view d.node) end ≡ get_or (map (λ t. t.children) (trees (forest_of (map (placed global_view declaration_node) ds)))) j end
node_at [] j d h e = absurd (omega (arith, h))
node_at (x ∷ ds) zero d h e = ap (λ y. before (global_view y.node) end) e
node_at (x ∷ ds) (suc j) d h e = node_at ds j d (omega (arith, h)) e

node_past : (ds : List (Spanned GlobalDeclaration)) (j : ℕ) → length ds ≤ j → get_or (map (λ t. t.children) (trees (forest_of (map (placed global_view declaration_node) ds)))) j end ≡ end
node_past [] j h = refl
node_past (x ∷ ds) zero h = absurd (omega (arith, h))
node_past (x ∷ ds) (suc j) h = node_past ds j (omega (arith, h))

-- one item after the other
module _ {X : Type 0} (view : X → Tree) where
  joined_suc : (xs : List (Bor X)) (i : ℕ) (x : Bor X) → i < length xs → x ≡ get_or xs i x → flat_map (λ t. called_in t.children) (views view (take (suc i) xs)) ≡ flat_map (λ t. called_in t.children) (views view (take i xs)) ++ called_in (view x.now).children
  joined_suc [] i x h e = absurd (omega (arith, h))
  joined_suc (y ∷ xs) zero x h e = append-nil (called_in (view y.now).children) ∙ ap (λ z. called_in (view z.now).children) (sym e)
  joined_suc (y ∷ xs) (suc i) x h e = ap (λ ns. called_in (view y.now).children ++ ns) (joined_suc xs i x (omega (arith, h)) e) ∙ sym (append_assoc (called_in (view y.now).children) (flat_map (λ t. called_in t.children) (views view (take i xs))) (called_in (view x.now).children))

  pub more_calls : (xs : List (Bor X)) (i : ℕ) (x : Bor X) (old before after one : List (CallOf ℕ)) → i < length xs → x ≡ get_or xs i x → before ≡ old ++ flat_map (λ t. called_in t.children) (views view (take i xs)) → after ≡ before ++ one → one ≡ called_in (view x.now).children → after ≡ old ++ flat_map (λ t. called_in t.children) (views view (take (i + 1) xs))
  more_calls xs i x old before after one h is b a o =
      let last : flat_map (λ t. called_in t.children) (views view (take i xs)) ++ one ≡ flat_map (λ t. called_in t.children) (views view (take (i + 1) xs)) =
      rw add-one (ap (λ ns. flat_map (λ t. called_in t.children) (views view (take i xs)) ++ ns) o ∙ sym (joined_suc xs i x h is)) in
      a ∙ (ap (λ ns. ns ++ one) b ∙ (append_assoc old (flat_map (λ t. called_in t.children) (views view (take i xs))) one ∙ ap (λ ns. old ++ ns) last))

pub all_gathered : (d : GlobalDeclaration) (es ss : List Tree) (none first second : List (CallOf ℕ)) → none ≡ [] → es ≡ strictly expressions true (global_view d) → ss ≡ strictly statements true (global_view d) → first ≡ none ++ flat_map (λ t. called_in t.children) es → second ≡ first ++ flat_map (λ t. called_in t.children) ss → second ≡ calls_in (before (global_view d) end)
all_gathered d es ss none first second n e s f g =
    g
    ∙ (ap (λ xs. xs ++ flat_map (λ t. called_in t.children) ss) (f ∙ ap (λ xs. xs ++ flat_map (λ t. called_in t.children) es) n)
    ∙ (ap (λ xs. flat_map (λ t. called_in t.children) xs ++ flat_map (λ t. called_in t.children) ss) e
    ∙ (ap (λ xs. flat_map (λ t. called_in t.children) (strictly expressions true (global_view d)) ++ flat_map (λ t. called_in t.children) xs) s ∙ gathered d)))

-- what is so of each call that was gone over
pub passed_next : (P : CallOf ℕ → Type 0) (xs : List Call) (i : ℕ) (x : Call) → i < length xs → x ≡ get_or xs i x → All P (map call_told (take i xs)) → P (call_told x) → All P (map call_told (take (i + 1) xs))
passed_next P xs i x h is all this = rw add-one (subst (All P) (sym (mapped xs i x h is)) (All-push P (map call_told (take i xs)) (call_told x) all this))
  where
    mapped : (xs : List Call) (i : ℕ) (x : Call) → i < length xs → x ≡ get_or xs i x → map call_told (take (suc i) xs) ≡ map call_told (take i xs) ++ call_told x ∷ []
    mapped [] i x h is = absurd (omega (arith, h))
    mapped (y ∷ xs) zero x h is = ap (λ z. call_told z ∷ []) (sym is)
    mapped (y ∷ xs) (suc i) x h is = ap (λ cs. call_told y ∷ cs) (mapped xs i x (omega (arith, h)) is)

pub among : (u : UnitView) (b : BuiltinNames) (xs : List Call) (i : ℕ) (x : Call) (m : Misfit) → i < length xs → x ≡ get_or xs i x → Misses u b (call_told x) m → MissesAmong u b (map call_told xs) m
among u b xs i x m h is s = (call_told x, to_mapped call_told xs x (i, h, sym is), s)

-- the calls of the declarations before one pass
abbrev pub PassBefore : UnitView → BuiltinNames → ℕ → Type 0
PassBefore u b j = (i : ℕ) → i < j → All (Passes u b) (calls_of u i)

module _ (u : UnitView) (b : BuiltinNames) (v : Vec (Spanned GlobalDeclaration) Global) (same : declarations_tree v ≡ u.declarations) where
  pub calls_at : (j : ℕ) (d : Spanned GlobalDeclaration) → j < length v.items → d ≡ get_or v.items j d → calls_in (before (global_view d.node) end) ≡ calls_of u j
  calls_at j d h e = ap calls_in (node_at v.items j d h e ∙ ap (λ t. get_or (map (λ x. x.children) (trees t.children)) j end) same)

  calls_past : (j : ℕ) → length v.items ≤ j → calls_of u j ≡ []
  calls_past j h = ap calls_in (ap (λ t. get_or (map (λ x. x.children) (trees t.children)) j end) (sym same) ∙ node_past v.items j h)

  pub misses_in : (j : ℕ) (d : Spanned GlobalDeclaration) (m : Misfit) → j < length v.items → d ≡ get_or v.items j d → MissesAmong u b (calls_in (before (global_view d.node) end)) m → MissesIn u b j m
  misses_in j d m h e s = subst (λ cs. MissesAmong u b cs m) (calls_at j d h e) s

  pub pass_next : (j : ℕ) (d : Spanned GlobalDeclaration) → j < length v.items → d ≡ get_or v.items j d → PassBefore u b j → All (Passes u b) (calls_in (before (global_view d.node) end)) → PassBefore u b (j + 1)
  pass_next j d h e all this i l = by (nat_cases i j (omega (arith, l)))
    where
      nat_cases : (i j : ℕ) → i < suc j → (i < j) ⊎ (i ≡ j)
      nat_cases zero zero l = inr refl
      nat_cases zero (suc j) l = inl (omega arith)
      nat_cases (suc i) zero l = absurd (omega (arith, l))
      nat_cases (suc i) (suc j) l = more (nat_cases i j (omega (arith, l)))
        where
          more : (i < j) ⊎ (i ≡ j) → (suc i < suc j) ⊎ (suc i ≡ suc j)
          more (inl x) = inl (omega (arith, x))
          more (inr x) = inr (ap suc x)

      by : (i < j) ⊎ (i ≡ j) → All (Passes u b) (calls_of u i)
      by (inl q) = all i q
      by (inr q) = subst (λ k. All (Passes u b) (calls_of u k)) (sym q) (subst (All (Passes u b)) (calls_at j d h e) this)

  pub all_pass : (j : ℕ) → length v.items ≤ j → PassBefore u b j → IsFitting u b
  all_pass j h all i e c there = by (cases_lt i j)
    where
      by : (i < j) ⊎ (j ≤ i) → AliasesTo u c.callee e → IsEnd u e → Fits u b c
      by (inl l) = All-contains (Passes u b) (calls_of u i) c (all i l) there e
      by (inr l) = absurd (contains_none c (subst (λ cs. Contains cs c) (calls_past i (omega (arith, h, l))) there))
