-- Tables that are made from a module's identifiers tell what it is.
use Rattle.std.proofs.Common.{◌≡◌, ◌⊎◌, ◌↔◌, ℕ, zero, suc, ◌+◌, ◌<◌, ◌++◌, ◌==◌, ◌&&◌, ◌||◌, Bool, true, false, List, [], ◌∷◌, length, map, get_or, take, refl, sym, ap, ◌∙◌, subst, inl, inr, arith, add-one, append_assoc, Vec, Global}
use Rattle.std.specs.Prelude.{Option, Some, None, flat_map, if◌then◌else◌}
use Rattle.std.specs.List.{Contains, filter, list_any}
use Rattle.std.proofs.lemmas.Bool.Decides.{Decides-eqb}
use Rattle.std.proofs.lemmas.List.{append-nil}
use Rattle.wesl_tree_syntax.specs.Tree.{forest_of, trees, before, end}
use Rattle.wesl_tree_syntax.specs.Unit.{UnitView}
use Rattle.wesl_tree_syntax.specs.View.{global_view, placed, declarations_tree}
use Rattle.wesl_tree_syntax.specs.Tree.{declaration_node}
use Rattle.wesl_tree_syntax.specs.declared.span.Spanned.{Spanned}
use Rattle.wesl_tree_syntax.specs.declared.declaration.GlobalDeclaration.{GlobalDeclaration}
use Rattle.wesl_scope_occurrences.specs.Occurrences.{Block, Occurrence, is_module_name, is_binder}
use Rattle.wesl_scope_occurrences.specs.Walk.{Found}
use Rattle.wesl_scope_occurrences.specs.Ways.{told}
use Rattle.wesl_scope_strip.specs.Declarations.{lies_in, all, declared_in}
use Rattle.wesl_scope_strip.specs.Marks.{mark_at}
use Rattle.wesl_validate_rules.specs.Graphs.{Graph, edges_at, Leads, IsClosed}
use Rattle.wesl_validate_rules.specs.Calls.{ShapeOf, alias_of, other, open_alias, function_with, struct_with, shape_in}
use Rattle.wesl_validate_rules.specs.Known.{binds_here}
use Rattle.wesl_validate_rules.specs.Valid.{shape_of, Declares}
use Rattle.wesl_validate_calls.specs.Tables.{Tables, AreTables, shape_at, target_of, target_at, one_or_none, declaration_named, alias_target, edges_here, edges_of}
use Rattle.wesl_validate_calls.proofs.Members.{contains_none, contains_here, contains_cases, to_mapped, from_mapped, to_filtered, from_filtered, from_joined, to_joined}

-- edges are made by identifiers of that number
module _ (f : Found → Option ℕ) (m b : ℕ) where
  abbrev IsMadeBy : Found → Type 0
  IsMadeBy o = (o.name ≡ m) × (f o ≡ Some b)

  made : (o : Found) → Contains (edges_here f m o) b → IsMadeBy o
  made o c = by (o.name == m) (Decides-eqb o.name m) c
    where
      at : (t : Option ℕ) → f o ≡ t → Contains (one_or_none t) b → f o ≡ Some b
      at None q d = absurd (contains_none b d)
      at (Some x) q d = q ∙ one (contains_cases x b [] d)
        where
          one : (x ≡ b) ⊎ Contains [] b → Some x ≡ Some b
          one (inl e) = ap Some e
          one (inr d) = absurd (contains_none b d)

      by : (t : Bool) → ((t ≡ true → o.name ≡ m) × (o.name ≡ m → t ≡ true)) → Contains (if t then one_or_none (f o) else []) b → IsMadeBy o
      by true d c = (d.0 refl, at (f o) refl c)
      by false d c = absurd (contains_none b c)

  makes : (o : Found) → IsMadeBy o → Contains (edges_here f m o) b
  makes o r = subst (λ t. Contains (if t then one_or_none (f o) else []) b) (sym ((Decides-eqb o.name m).1 r.0)) (subst (λ t. Contains (one_or_none t) b) (sym r.1) (contains_here b []))

  pub from_edges : (os : List Found) → Contains (edges_of f m os) b → (o : Found) × (Contains os o × IsMadeBy o)
  from_edges os c = let s = from_joined (edges_here f m) os b c in (s.0, (s.1.0, made s.0 s.1.1))

  pub to_edges : (os : List Found) (o : Found) → Contains os o → IsMadeBy o → Contains (edges_of f m os) b
  to_edges os o c r = to_joined (edges_here f m) os o b c (makes o r)

named : (o : Found) (j : ℕ) → declaration_named o ≡ Some j → (is_module_name o.role && lies_in j o.declaration) ≡ true
named o j e = by (is_module_name o.role) refl e
  where
    at : (d : Option ℕ) → d ≡ Some j → lies_in j d ≡ true
    at d q = rw q ((Decides-eqb j j).1 refl)

    by : (t : Bool) → is_module_name o.role ≡ t → (if t then o.declaration else None) ≡ Some j → (t && lies_in j o.declaration) ≡ true
    by true q h = at o.declaration h
    by false q h = absurd (let g : None ≡ Some j = h in cc)

names : (o : Found) (j : ℕ) → (is_module_name o.role && lies_in j o.declaration) ≡ true → declaration_named o ≡ Some j
names o j e = by (is_module_name o.role) e
  where
    at : (d : Option ℕ) → lies_in j d ≡ true → d ≡ Some j
    at None q = absurd (let g : false ≡ true = q in cc)
    at (Some i) q = ap Some ((Decides-eqb i j).0 q)

    by : (t : Bool) → (t && lies_in j o.declaration) ≡ true → (if t then o.declaration else None) ≡ Some j
    by true h = at o.declaration h
    by false h = absurd (let g : false ≡ true = h in cc)

abbrev names_it : ℕ → Occurrence ℕ → Bool
names_it j o = is_module_name o.role && lies_in j o.declaration

module _ (u : UnitView) (w : ℕ → Block) (os : List Found) (all_is : map (told w) os ≡ all u) where
  declares : (j m : ℕ) (o : Found) → Contains os o → o.name ≡ m → declaration_named o ≡ Some j → Declares u j m
  declares j m o there name e =
      subst (λ k. Contains (declared_in u j) k) name
      (to_mapped (λ (o : Occurrence ℕ). o.name) (filter (names_it j) (all u)) (told w o)
      (to_filtered (names_it j) (all u) (told w o) (subst (λ xs. Contains xs (told w o)) all_is (to_mapped (told w) os o there)) (named o j e)))

  declared : (j m : ℕ) → Declares u j m → (o : Found) × (Contains os o × (o.name ≡ m) × (declaration_named o ≡ Some j))
  declared j m c =
      let s = from_mapped (λ (o : Occurrence ℕ). o.name) (filter (names_it j) (all u)) m c in
      let t = from_filtered (names_it j) (all u) s.0 s.1.0 in
      let r = from_mapped (told w) os s.0 (subst (λ xs. Contains xs s.0) (sym all_is) t.0) in
      let tests : names_it j (told w r.0) ≡ true = ap (names_it j) r.1.1 ∙ t.1 in
      let name : r.0.name ≡ m = ap (λ (o : Occurrence ℕ). o.name) r.1.1 ∙ s.1.1 in
      (r.0, (r.1.0, name, names r.0 j tests))

  pub declarers : (g : Graph) → ((m : ℕ) → edges_at g m ≡ edges_of declaration_named m os) → (m j : ℕ) → Leads g m j ↔ Declares u j m
  declarers g is m j = (to, from)
    where
      to : Leads g m j → Declares u j m
      to l = let s = from_edges declaration_named m j os (subst (λ xs. Contains xs j) (is m) l) in declares j m s.0 s.1.0 s.1.1.0 s.1.1.1

      from : Declares u j m → Leads g m j
      from d = let s = declared j m d in subst (λ xs. Contains xs j) (sym (is m)) (to_edges declaration_named m j os s.0 s.1.0 (s.1.1, s.1.2))

  module _ (shapes : List (ShapeOf ℕ)) (shaped : (j : ℕ) → shape_at shapes j ≡ shape_of u j) where
    target_from : (s : ShapeOf ℕ) (b : ℕ) → target_of s ≡ Some b → s ≡ alias_of b
    target_from (alias_of t) b e = ap alias_of (inside e)
      where
        inside : Some t ≡ Some b → t ≡ b
        inside q = cc
    target_from (function_with k) b e = absurd (let g : None ≡ Some b = e in cc)
    target_from (struct_with k) b e = absurd (let g : None ≡ Some b = e in cc)
    target_from open_alias b e = absurd (let g : None ≡ Some b = e in cc)
    target_from other b e = absurd (let g : None ≡ Some b = e in cc)

    target_to : (s : ShapeOf ℕ) (b : ℕ) → s ≡ alias_of b → target_of s ≡ Some b
    target_to s b e = ap target_of e

    pub aliases : (g : Graph) → ((m : ℕ) → edges_at g m ≡ edges_of (alias_target shapes) m os) → (a b : ℕ) → Leads g a b ↔ ((j : ℕ) × Declares u j a × (shape_of u j ≡ alias_of b))
    aliases g is a b = (to, from)
      where
        at : (o : Found) → Contains os o → o.name ≡ a → (d : Option ℕ) → declaration_named o ≡ d → target_at shapes d ≡ Some b → (j : ℕ) × Declares u j a × (shape_of u j ≡ alias_of b)
        at o there name None q e = absurd (let g : None ≡ Some b = e in cc)
        at o there name (Some j) q e = (j, declares j a o there name q, sym (shaped j) ∙ target_from (shape_at shapes j) b e)

        to : Leads g a b → (j : ℕ) × Declares u j a × (shape_of u j ≡ alias_of b)
        to l = let s = from_edges (alias_target shapes) a b os (subst (λ xs. Contains xs b) (is a) l) in at s.0 s.1.0 s.1.1.0 (declaration_named s.0) refl s.1.1.1

        from : (j : ℕ) × Declares u j a × (shape_of u j ≡ alias_of b) → Leads g a b
        from (j, d, e) =
            let s = declared j a d in
            let target : alias_target shapes s.0 ≡ Some b = ap (target_at shapes) s.1.2 ∙ target_to (shape_at shapes j) b (shaped j ∙ e) in
            subst (λ xs. Contains xs b) (sym (is a)) (to_edges (alias_target shapes) a b os s.0 s.1.0 (s.1.1, target))

edges_told : (w : ℕ → Block) (f : Occurrence ℕ → Option ℕ) (g : Found → Option ℕ) → ((o : Found) → f (told w o) ≡ g o) → (m : ℕ) (os : List Found) → edges_of f m (map (told w) os) ≡ edges_of g m os
edges_told w f g same m [] = refl
edges_told w f g same m (o ∷ os) = ap (λ r. (if o.name == m then one_or_none r else []) ++ edges_of f m (map (told w) os)) (same o) ∙ ap (λ ns. edges_here g m o ++ ns) (edges_told w f g same m os)

any_told : (w : ℕ → Block) (m : ℕ) (os : List Found) → list_any (λ (o : Occurrence ℕ). is_binder o.role && o.name == m) (map (told w) os) ≡ list_any (binds_here m) os
any_told w m [] = refl
any_told w m (o ∷ os) = ap (λ t. (is_binder o.role && o.name == m) || t) (any_told w m os)

shape_each : (ds : List (Spanned GlobalDeclaration)) (j : ℕ) → get_or (map (λ (d : Spanned GlobalDeclaration). shape_in (before (global_view d.node) end)) ds) j other ≡ shape_in (get_or (map (λ t. t.children) (trees (forest_of (map (placed global_view declaration_node) ds)))) j end)
shape_each [] j = refl
shape_each (d ∷ ds) zero = refl
shape_each (d ∷ ds) (suc j) = shape_each ds j

module _ (u : UnitView) (w : ℕ → Block) (os : List Found) (all_is : map (told w) os ≡ all u) (v : Vec (Spanned GlobalDeclaration) Global) (same : declarations_tree v ≡ u.declarations) where
  shapes_are : (shapes : List (ShapeOf ℕ)) → shapes ≡ map (λ (d : Spanned GlobalDeclaration). shape_in (before (global_view d.node) end)) v.items → (j : ℕ) → shape_at shapes j ≡ shape_of u j
  shapes_are shapes e j = ap (λ ss. shape_at ss j) e ∙ (shape_each v.items j ∙ ap (λ t. shape_in (get_or (map (λ x. x.children) (trees t.children)) j end)) same)

  pub are_tables : (t : Tables) → t.shapes ≡ map (λ (d : Spanned GlobalDeclaration). shape_in (before (global_view d.node) end)) v.items
      → ((m : ℕ) → edges_at t.declarers m ≡ edges_of declaration_named m os)
      → ((m : ℕ) → edges_at t.aliases m ≡ edges_of (alias_target t.shapes) m os)
      → IsClosed t.aliases
      → ((m : ℕ) → mark_at t.bound m ≡ list_any (binds_here m) os)
      → AreTables u t
  are_tables t shapes d a closed b = record {
    shaped = shapes_are t.shapes shapes;
    listed = λ m. d m ∙ (sym (edges_told w declaration_named declaration_named (λ o. refl) m os) ∙ ap (edges_of declaration_named m) all_is);
    declared = declarers u w os all_is t.declarers d;
    aliased = aliases u w os all_is t.shapes (shapes_are t.shapes shapes) t.aliases a;
    closed = closed;
    bounded = λ m. b m ∙ (sym (any_told w m os) ∙ ap (list_any (λ (o : Occurrence ℕ). is_binder o.role && o.name == m)) all_is);
  }

-- one item after the other
module _ {X A B : Type 0} (v : X → A) (f : A → List B) where
  joined_suc : (xs : List X) (i : ℕ) (x : X) → i < length xs → x ≡ get_or xs i x → flat_map f (map v (take (suc i) xs)) ≡ flat_map f (map v (take i xs)) ++ f (v x)
  joined_suc [] i x h e = absurd (omega (arith, h))
  joined_suc (y ∷ xs) zero x h e = append-nil (f (v y)) ∙ ap (λ z. f (v z)) (sym e)
  joined_suc (y ∷ xs) (suc i) x h e = ap (λ ns. f (v y) ++ ns) (joined_suc xs i x (omega (arith, h)) e) ∙ sym (append_assoc (f (v y)) (flat_map f (map v (take i xs))) (f (v x)))

  pub joined_next : (xs : List X) (i : ℕ) (x : X) → i < length xs → x ≡ get_or xs i x → flat_map f (map v (take (i + 1) xs)) ≡ flat_map f (map v (take i xs)) ++ f (v x)
  joined_next xs i x h e = rw add-one (joined_suc xs i x h e)
