-- Nodes with fields, and nodes of lists, by the sets of what is below them.
use Rattle.std.proofs.Common.{◌≡◌, ℕ, suc, ◌<◌, ◌≤◌, nat_lt, ◌&&◌, Bool, true, false, List, [], ◌∷◌, ◌++◌, map, length, get_or, length-append, inl, inr, refl, sym, ap, ◌∙◌, arith}
use Rattle.std.proofs.lemmas.Bool.{cases_lt, lt-ltb}
use Rattle.std.proofs.lemmas.List.{length-map}
use Rattle.std.specs.Prelude.{Option, None, Some, Result, IfOk}
use Rattle.std.specs.Global.{Vec}
use Rattle.std.specs.declared.alloc.AllocError.{AllocError}
use Rattle.wesl_cond_chains.specs.Faults.{closed_list}
use Rattle.wesl_cond_chains.specs.Lists.{Element, elements, is_entered}
use Rattle.wesl_cond_chains.specs.Nodes.{optional_forest}
use Rattle.wesl_cond_chains.specs.Picked.{Choice}
use Rattle.wesl_cond_choices.specs.Choices.{Choices, has as holds}
use Rattle.wesl_tree_syntax.specs.Tree.{Forest, Kind, Tree, at, before, branch, compound, continuing, end, forest_of, kind, list, loop, statement_node, statements}
use Rattle.wesl_tree_syntax.specs.View.{attributes_tree, compound_view, optional, selector_view, statement_tree, statement_view}
use Rattle.wesl_tree_syntax.specs.declared.attribute.Attribute.{Attribute}
use Rattle.wesl_tree_syntax.specs.declared.span.Spanned.{Spanned}
use Rattle.wesl_tree_syntax.specs.declared.statement.CaseSelector.{CaseSelector}
use Rattle.wesl_tree_syntax.specs.declared.statement.CaseSelector.TheVariants as selectors
use Rattle.wesl_tree_syntax.specs.declared.statement.CompoundStatement.{CompoundStatement, out-CompoundStatement}
use Rattle.wesl_tree_syntax.specs.declared.statement.Statement.{Statement}
use Rattle.wesl_cond_alive.specs.Kept.{kept_indexes}
use Rattle.wesl_cond_alive.specs.Positions.{body_size, handed, has, is_plain, keeps_child, kept_at, size}
use Rattle.wesl_cond_alive.specs.Sound.{outline_of}
use Rattle.wesl_cond_positions.specs.Found.{Finds, IsFound, choice_in, keeps_leaf}
use Rattle.wesl_cond_positions.specs.declared.lookup.Lookup.{Lookup}
use Rattle.wesl_cond_positions.proofs.Fields.{IsJudged, alone, below, from_tree, judged_at, leaf_at, no_element, this_element, through_span}
use Rattle.wesl_cond_positions.proofs.Numbers.{found_as, kept_number, none_past}
use Rattle.wesl_tree_syntax.proofs.Views.{view_compound}
use mathlib.Core.Bool.{and-false, and-true}
use Rattle.wesl_cond_alive.proofs.Nodes.{size_listed}

pub selector_leaf : (x : CaseSelector) → is_entered (selector_view x).label ≡ false
selector_leaf selectors.Default = refl
selector_leaf (selectors.Expression e) = refl

module _ (look : Lookup) where
  -- a position goes on below a field
  pub onward : (t whole u : Tree) (i : ℕ) (p q : List ℕ) (r : Result Choices AllocError) → t ≡ whole → ((choice : Choice ℕ) → from_tree choice (i ∷ q) whole ≡ from_tree choice q u)
      → Finds look q u r → p ≡ i ∷ q → Finds look p t r
  onward t whole u i p q r is field h e =
      found_as look r (λ choice. from_tree choice q u) (λ choice. from_tree choice p t) (λ choice. sym (ap (λ z. from_tree choice z t) e ∙ ap (from_tree choice (i ∷ q)) is ∙ field choice)) h

  -- a position leads nowhere
  pub nowhere : (t whole : Tree) (i : ℕ) (p q : List ℕ) (r : Result Choices AllocError) → t ≡ whole → ((choice : Choice ℕ) → from_tree choice (i ∷ q) whole ≡ false)
      → IfOk r (IsFound look (λ choice. false)) → p ≡ i ∷ q → Finds look p t r
  nowhere t whole i p q r is field h e =
      found_as look r (λ choice. false) (λ choice. from_tree choice p t) (λ choice. sym (ap (λ z. from_tree choice z t) e ∙ ap (from_tree choice (i ∷ q)) is ∙ field choice)) h

  -- one of the values of a switch clause
  pub selector_found : (xs : List CaseSelector) (i : ℕ) (p q : List ℕ) (b : Bool) (r : Result Choices AllocError) → IfOk r (IsFound look (λ choice. b)) → b ≡ nat_lt i (length xs) → p ≡ i ∷ q
      → Finds look p (branch list (map selector_view xs)) r
  selector_found xs i p q b r h d e =
      found_as look r (λ choice. b) (λ choice. from_tree choice p (branch list (map selector_view xs)))
      (λ choice. d ∙ sym (ap (λ z. from_tree choice z (branch list (map selector_view xs))) e ∙ leaf_at choice selector_view selector_leaf i q xs)) h

  -- a set is that of two others
  both_found : (f g whole : Choice ℕ → Bool) (a b c : Choices) → ((choice : Choice ℕ) → (f choice && g choice) ≡ whole choice) → IsFound look f a → IsFound look g b
      → c.flags ≡ a.flags → ((k : ℕ) → holds c k ≡ (holds a k && holds b k)) → IsFound look whole c
  both_found f g whole a b c e x y over both = record {
    over = over ∙ x.over;
    set = λ k h. both k ∙ (ap (λ s. s && holds b k) (x.set k h) ∙ (ap (λ s. f (choice_in look k) && s) (y.set k h) ∙ e (choice_in look k)));
  }

  module _ {X : Type 0} (view : X → Tree) (k : Kind) (judged : (choice : Choice ℕ) → IsJudged choice k) where
    abbrev listed_tree : List X → Tree
    listed_tree xs = branch k (map view xs)

    -- an element of a judged list
    pub element_found : (xs : List X) (x : X) (inner : Tree) (i : ℕ) (p q : List ℕ) (a b c : Choices) → i < length xs → x ≡ get_or xs i x
        → ((choice : Choice ℕ) → from_tree choice q (view x) ≡ from_tree choice q inner)
        → IsFound look (λ choice. has (kept_indexes choice (elements false (forest_of (map view xs)))) i) a → IsFound look (λ choice. from_tree choice q inner) b
        → c.flags ≡ a.flags → ((n : ℕ) → holds c n ≡ (holds a n && holds b n)) → p ≡ i ∷ q → IsFound look (λ choice. from_tree choice p (listed_tree xs)) c
    element_found xs x inner i p q a b c h is same found inside over both e =
        both_found (λ choice. has (kept_indexes choice (elements false (forest_of (map view xs)))) i) (λ choice. from_tree choice q inner) (λ choice. from_tree choice p (listed_tree xs)) a b c
        (λ choice. sym (ap (λ z. from_tree choice z (listed_tree xs)) e ∙ judged_at choice k (judged choice) i q (forest_of (map view xs))
        ∙ ap (λ s. has (kept_indexes choice (elements false (forest_of (map view xs)))) i && s) (this_element choice view i q xs x h is ∙ same choice)))
        found inside over both

    -- there is no such element
    pub no_element_found : (xs : List X) {n : ℕ} (i : ℕ) (p q : List ℕ) (r : Result Choices AllocError) → n ≤ i → n ≡ length xs → IfOk r (IsFound look (λ choice. false)) → p ≡ i ∷ q
        → Finds look p (listed_tree xs) r
    no_element_found xs i p q r le d found e =
        let h : length xs ≤ i = omega arith in
        found_as look r (λ choice. false) (λ choice. from_tree choice p (listed_tree xs))
        (λ choice. sym (ap (λ z. from_tree choice z (listed_tree xs)) e ∙ judged_at choice k (judged choice) i q (forest_of (map view xs))
        ∙ ap (λ s. has (kept_indexes choice (elements false (forest_of (map view xs)))) i && s) (no_element choice view None i q xs h) ∙ and-false _)) found

-- ---- bodies whose lists are judged with what closes them

-- nodes with such bodies
pub record IsClosing (k : Kind) : Type 0 where
  pub entered : is_entered {I = ℕ} (kind k) ≡ true
  pub plain : is_plain {I = ℕ} (kind k) ≡ false
  pub keeps_body : (choice : Choice ℕ) (children : Forest) → keeps_child choice None (kind k) children 1 ≡ true
  pub keeps_last : (choice : Choice ℕ) (children : Forest) → keeps_child choice None (kind k) children 2 ≡ has (kept_indexes choice (closed_list children)) (body_size children)
  pub to_body : (ks : List ℕ) → handed {I = ℕ} (kind k) ks None 1 ≡ Some ks
  pub to_last : (ks : List ℕ) → handed {I = ℕ} (kind k) ks None 2 ≡ None

pub loop_closing : IsClosing loop
loop_closing = record { entered = refl; plain = refl; keeps_body = λ choice children. refl; keeps_last = λ choice children. refl; to_body = λ ks. refl; to_last = λ ks. refl }

pub continuing_closing : IsClosing continuing
continuing_closing = record { entered = refl; plain = refl; keeps_body = λ choice children. refl; keeps_last = λ choice children. refl; to_body = λ ks. refl; to_last = λ ks. refl }

length_elements : (ts : List Tree) → length (elements {I = ℕ} false (forest_of ts)) ≡ length ts
length_elements [] = refl
length_elements (t ∷ ts) = ap suc (length_elements ts)

abbrev pub body_tree : Vec (Spanned Attribute) → List Tree → Tree
body_tree b ts = branch compound (attributes_tree b ∷ branch statements ts ∷ [])

abbrev statements_of : CompoundStatement → List Tree
statements_of body = map statement_tree (out-CompoundStatement body).statements.items

module _ {X : Type 0} (view : X → Tree) where
  abbrev pub both_of : List Tree → Option X → List (Element ℕ)
  both_of ts o = elements false (forest_of ts) ++ elements true (optional_forest view o)

  abbrev pub closing_tree : Kind → Vec (Spanned Attribute) → Vec (Spanned Attribute) → List Tree → Option X → Tree
  closing_tree k a b ts o = branch k (attributes_tree a ∷ body_tree b ts ∷ optional view o ∷ [])

  closed_list_is : (k : Kind) (a b : Vec (Spanned Attribute)) (ts : List Tree) (o : Option X) → closed_list (closing_tree k a b ts o).children ≡ both_of ts o
  closed_list_is k a b ts None = refl
  closed_list_is k a b ts (Some x) = refl

  -- the list of a body and of what closes it
  abbrev pub closing_list : CompoundStatement → Option X → List (Element ℕ)
  closing_list body o = both_of (statements_of body) o

  module _ (choice : Choice ℕ) (k : Kind) (h : IsClosing k) where
    none_there : (ts : List Tree) → has (kept_indexes choice (both_of ts None)) (length ts) ≡ false
    none_there ts =
        kept_number choice (both_of ts None) (length ts)
        ∙ none_past choice (map outline_of (both_of ts None)) (length ts) (omega (arith, length-map (both_of ts None) (outline_of {I = ℕ}), length-append (elements false (forest_of ts)) [], length_elements ts))

    leaf_there : ((x : X) → is_entered (view x).label ≡ false) → (q : List ℕ) (x : X) → from_tree choice q (optional view (Some x)) ≡ true
    leaf_there e [] x = refl
    leaf_there e (i ∷ q) x = rw (e x) refl

    pub in_body : (q : List ℕ) (a b : Vec (Spanned Attribute)) (ts : List Tree) (o : Option X)
        → from_tree choice (1 ∷ q) (closing_tree k a b ts o) ≡ kept_at choice (Some (kept_indexes choice (both_of ts o))) 0 q (before (body_tree b ts) end)
    in_body q a b ts o =
        let children : Forest = (closing_tree k a b ts o).children in
        let ks : List ℕ = kept_indexes choice (closed_list children) in
        below choice (kind k) 1 q children h.entered h.plain
        ∙ ap (λ s. s && kept_at choice (handed {I = ℕ} (kind k) ks None 1) 1 q children) (h.keeps_body choice children)
        ∙ ap (λ held. kept_at choice held 1 q children) (h.to_body ks)
        ∙ alone choice (Some ks) q (body_tree b ts) (before (optional view o) end)
        ∙ ap (λ xs. kept_at choice (Some (kept_indexes choice xs)) 0 q (before (body_tree b ts) end)) (closed_list_is k a b ts o)

    pub in_last : (q : List ℕ) (a b : Vec (Spanned Attribute)) (ts : List Tree) (o : Option X)
        → from_tree choice (2 ∷ q) (closing_tree k a b ts o) ≡ (has (kept_indexes choice (both_of ts o)) (length ts) && from_tree choice q (optional view o))
    in_last q a b ts o =
        let children : Forest = (closing_tree k a b ts o).children in
        let ks : List ℕ = kept_indexes choice (closed_list children) in
        below choice (kind k) 2 q children h.entered h.plain
        ∙ ap (λ s. s && kept_at choice (handed {I = ℕ} (kind k) ks None 2) 2 q children) (h.keeps_last choice children)
        ∙ ap (λ held. has ks (size (forest_of ts)) && kept_at choice held 2 q children) (h.to_last ks)
        ∙ ap (λ xs. has (kept_indexes choice xs) (size (forest_of ts)) && from_tree choice q (optional view o)) (closed_list_is k a b ts o)
        ∙ ap (λ n. has (kept_indexes choice (both_of ts o)) n && from_tree choice q (optional view o)) (size_listed ts)

    -- what closes a list has no judged list in it, and is there where it is kept
    pub in_last_leaf : ((x : X) → is_entered (view x).label ≡ false) → (q : List ℕ) (a b : Vec (Spanned Attribute)) (ts : List Tree) (o : Option X)
        → from_tree choice (2 ∷ q) (closing_tree k a b ts o) ≡ has (kept_indexes choice (both_of ts o)) (length ts)
    in_last_leaf e q a b ts None =
        in_last q a b ts None
        ∙ ap (λ s. s && from_tree choice q (optional view None)) (none_there ts)
        ∙ sym (none_there ts)
    in_last_leaf e q a b ts (Some x) = in_last q a b ts (Some x) ∙ ap (λ s. has (kept_indexes choice (both_of ts (Some x))) (length ts) && s) (leaf_there e q x) ∙ and-true _

-- ---- loops and continuing blocks

module _ (look : Lookup) where
  module _ (t : Tree) (b : Vec (Spanned Attribute)) (ss : List (Spanned Statement)) (is : t ≡ body_tree b (map statement_tree ss)) (xs : List (Element ℕ)) where
    abbrev in_held : Choice ℕ → List ℕ → Bool
    in_held choice p = kept_at choice (Some (kept_indexes choice xs)) 0 p (before t end)

    held_is : (choice : Choice ℕ) (i : ℕ) (p q : List ℕ) → p ≡ 1 ∷ i ∷ q → in_held choice p ≡ (has (kept_indexes choice xs) i && kept_at choice None i q (forest_of (map statement_tree ss)))
    held_is choice i p q e = ap (in_held choice) e ∙ ap (λ z. kept_at choice (Some (kept_indexes choice xs)) 0 (1 ∷ i ∷ q) (before z end)) is

    pub statement_found : (x : Spanned Statement) (i : ℕ) (p q : List ℕ) (a c d : Choices) → i < length ss → x ≡ get_or ss i x → IsFound look (λ choice. has (kept_indexes choice xs) i) a
        → IsFound look (λ choice. from_tree choice q (statement_view x.node)) c → d.flags ≡ a.flags → ((k : ℕ) → holds d k ≡ (holds a k && holds c k)) → p ≡ 1 ∷ i ∷ q → IsFound look (λ choice. in_held choice p) d
    statement_found x i p q a c d h same found inside over both e =
        both_found look (λ choice. has (kept_indexes choice xs) i) (λ choice. from_tree choice q (statement_view x.node)) (λ choice. in_held choice p) a c d
        (λ choice. sym (held_is choice i p q e ∙ ap (λ s. has (kept_indexes choice xs) i && s)
        (this_element choice statement_tree i q ss x h same ∙ through_span choice None q (at statement_node x.span.start x.span.end) (statement_view x.node) refl refl)))
        found inside over both

    pub no_statement_found : {n : ℕ} (i : ℕ) (p q : List ℕ) (r : Result Choices AllocError) → n ≤ i → n ≡ length ss → IfOk r (IsFound look (λ choice. false)) → p ≡ 1 ∷ i ∷ q → IfOk r (IsFound look (λ choice. in_held choice p))
    no_statement_found i p q r le d found e =
        let h : length ss ≤ i = omega arith in
        found_as look r (λ choice. false) (λ choice. in_held choice p)
        (λ choice. sym (held_is choice i p q e ∙ ap (λ s. has (kept_indexes choice xs) i && s) (no_element choice statement_tree None i q ss h) ∙ and-false _)) found

  module _ {X : Type 0} (view : X → Tree) (k : Kind) (closing : IsClosing k) (t : Tree) (a : Vec (Spanned Attribute)) (body : CompoundStatement) (o : Option X)
      (is : t ≡ branch k (attributes_tree a ∷ compound_view body ∷ optional view o ∷ [])) where
    whole_is : t ≡ closing_tree view k a (out-CompoundStatement body).attributes (statements_of body) o
    whole_is = is ∙ ap (λ z. branch k (attributes_tree a ∷ z ∷ optional view o ∷ [])) (view_compound body)

    pub body_found : (p q : List ℕ) (r : Result Choices AllocError) → IfOk r (IsFound look (λ choice. kept_at choice (Some (kept_indexes choice (closing_list view body o))) 0 q (before (compound_view body) end))) → p ≡ 1 ∷ q → Finds look p t r
    body_found p q r h e =
        found_as look r (λ choice. kept_at choice (Some (kept_indexes choice (closing_list view body o))) 0 q (before (compound_view body) end)) (λ choice. from_tree choice p t)
        (λ choice. ap (λ z. kept_at choice (Some (kept_indexes choice (closing_list view body o))) 0 q (before z end)) (view_compound body)
        ∙ sym (ap (λ z. from_tree choice z t) e ∙ ap (from_tree choice (1 ∷ q)) whole_is ∙ in_body view choice k closing q a (out-CompoundStatement body).attributes (statements_of body) o)) h

    last_is : (choice : Choice ℕ) (p q : List ℕ) (n : ℕ) → n ≡ length (out-CompoundStatement body).statements.items → p ≡ 2 ∷ q
        → from_tree choice p t ≡ (has (kept_indexes choice (closing_list view body o)) n && from_tree choice q (optional view o))
    last_is choice p q n d e =
        ap (λ z. from_tree choice z t) e ∙ ap (from_tree choice (2 ∷ q)) whole_is ∙ in_last view choice k closing q a (out-CompoundStatement body).attributes (statements_of body) o
        ∙ ap (λ m. has (kept_indexes choice (closing_list view body o)) m && from_tree choice q (optional view o)) (length-map (out-CompoundStatement body).statements.items statement_tree ∙ sym d)

    pub last_found : (p q : List ℕ) (n : ℕ) (x y z : Choices) → n ≡ length (out-CompoundStatement body).statements.items → IsFound look (λ choice. has (kept_indexes choice (closing_list view body o)) n) x
        → IsFound look (λ choice. from_tree choice q (optional view o)) y → z.flags ≡ x.flags → ((j : ℕ) → holds z j ≡ (holds x j && holds y j)) → p ≡ 2 ∷ q → IsFound look (λ choice. from_tree choice p t) z
    last_found p q n x y z d found inside over both e =
        both_found look (λ choice. has (kept_indexes choice (closing_list view body o)) n) (λ choice. from_tree choice q (optional view o)) (λ choice. from_tree choice p t) x y z
        (λ choice. sym (last_is choice p q n d e)) found inside over both

    pub last_leaf_found : ((x : X) → is_entered (view x).label ≡ false) → (p q : List ℕ) (n : ℕ) (r : Result Choices AllocError) → n ≡ length (out-CompoundStatement body).statements.items
        → IfOk r (IsFound look (λ choice. has (kept_indexes choice (closing_list view body o)) n)) → p ≡ 2 ∷ q → Finds look p t r
    last_leaf_found leaf p q n r d h e =
        found_as look r (λ choice. has (kept_indexes choice (closing_list view body o)) n) (λ choice. from_tree choice p t)
        (λ choice. ap (has (kept_indexes choice (closing_list view body o))) (d ∙ sym (length-map (out-CompoundStatement body).statements.items statement_tree))
        ∙ sym (ap (λ z. from_tree choice z t) e ∙ ap (from_tree choice (2 ∷ q)) whole_is ∙ in_last_leaf view choice k closing leaf q a (out-CompoundStatement body).attributes (statements_of body) o)) h

-- ---- judged lists below whose nodes none lies

module _ {X : Type 0} (view : X → Tree) (leaf : (x : X) → is_entered (view x).label ≡ false) (k : Kind) (judged : (choice : Choice ℕ) → IsJudged choice k) where
  leaf_kept : (choice : Choice ℕ) (p : List ℕ) (xs : List X) → keeps_leaf choice p (forest_of (map view xs)) ≡ from_tree choice p (branch k (map view xs))
  leaf_kept choice [] xs = refl
  leaf_kept choice (i ∷ p) xs =
      let kept = has (kept_indexes choice (elements false (forest_of (map view xs)))) i in
      elim (cases_lt i (length xs)) [
        | inl h ↦ sym (judged_at choice k (judged choice) i p (forest_of (map view xs)) ∙ ap (λ s. kept && s) (leaf_at choice view leaf i p xs ∙ lt-ltb i (length xs) h) ∙ and-true kept)
        | inr h ↦
            kept_number choice (elements false (forest_of (map view xs))) i
            ∙ none_past choice (map outline_of (elements false (forest_of (map view xs)))) i
            (omega (arith, length-map (elements {I = ℕ} false (forest_of (map view xs))) (outline_of {I = ℕ}), length_elements (map view xs), length-map xs view))
            ∙ sym (judged_at choice k (judged choice) i p (forest_of (map view xs)) ∙ ap (λ s. kept && s) (no_element choice view None i p xs h) ∙ and-false kept)
      ]

  pub leaf_found : (look : Lookup) (xs : List X) (p : List ℕ) (r : Result Choices AllocError) → IfOk r (IsFound look (λ choice. keeps_leaf choice p (forest_of (map view xs)))) → Finds look p (branch k (map view xs)) r
  leaf_found look xs p r h = found_as look r (λ choice. keeps_leaf choice p (forest_of (map view xs))) (λ choice. from_tree choice p (branch k (map view xs))) (λ choice. leaf_kept choice p xs) h
