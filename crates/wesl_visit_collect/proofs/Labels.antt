-- Forests all of whose labels pass a test, and what is found in them.
use Rattle.std.proofs.Common.{◌≡◌, Bool, true, false, ◌&&◌, List, [], ◌∷◌, ◌++◌, refl, ap, ◌∙◌, if◌then◌else◌}
use Rattle.wesl_tree_syntax.specs.Tree.{Label, Forest, Tree, end, tree, kind, at, expression_node, statement_node, attributes, if_attribute, elif_attribute, import_statement, diagnostic_directive, enable_directive, requires_directive, type_expression}
use Rattle.wesl_tree_syntax.specs.Nodes.{is_attributes, without_attributes}
use Rattle.wesl_visit_collect.specs.Sought.{Sought, expressions, types, statements, attribute_lists}
use Rattle.wesl_visit_collect.specs.Walk.{sight, sight_below, chosen, passes_words}
use Rattle.wesl_visit_collect.specs.Held.{all_of, plain_label, flat_label, hollow_label}
use Rattle.wesl_visit_collect.specs.Picks.{picks, seeks_statements, seeks_attributes}
use Rattle.std.proofs.lemmas.Bool.{and_parts}

pub all_more : (p q : Label → Bool) → ((l : Label) → p l ≡ true → q l ≡ true) → (f : Forest) → all_of p f ≡ true → all_of q f ≡ true
all_more p q m end h = refl
all_more p q m (tree l children others) h =
    let a = and_parts (p l && all_of p children) (all_of p others) h in
    let b = and_parts (p l) (all_of p children) a.0 in
    rw (m l b.0, all_more p q m children b.1, all_more p q m others a.1) refl

hollow_is_plain : (l : Label) → hollow_label l ≡ true → plain_label l ≡ true
hollow_is_plain (at statement_node s e) h = h
hollow_is_plain (kind attributes) h = h
hollow_is_plain (kind if_attribute) h = h
hollow_is_plain (kind elif_attribute) h = h
hollow_is_plain (kind import_statement) h = h
hollow_is_plain (kind diagnostic_directive) h = h
hollow_is_plain (kind enable_directive) h = h
hollow_is_plain (kind requires_directive) h = h
hollow_is_plain _ h = refl

pub plain_of : (f : Forest) → all_of hollow_label f ≡ true → all_of plain_label f ≡ true
plain_of = all_more hollow_label plain_label hollow_is_plain

-- what is plain is seen whole
pub plain_below : (k : Sought) (l : Label) (f : Forest) → plain_label l ≡ true → sight_below k l f ≡ f
plain_below k (kind if_attribute) f h = absurd (let x : ⊥ = cc in x)
plain_below k (kind elif_attribute) f h = absurd (let x : ⊥ = cc in x)
plain_below k (kind import_statement) f h = absurd (let x : ⊥ = cc in x)
plain_below k (kind diagnostic_directive) f h = absurd (let x : ⊥ = cc in x)
plain_below k (kind enable_directive) f h = absurd (let x : ⊥ = cc in x)
plain_below k (kind requires_directive) f h = absurd (let x : ⊥ = cc in x)
plain_below k _ f h = refl

pub sight_plain : (k : Sought) (f : Forest) → all_of plain_label f ≡ true → sight k f ≡ f
sight_plain k end h = refl
sight_plain k (tree l children others) h =
    let a = and_parts (plain_label l && all_of plain_label children) (all_of plain_label others) h in
    let b = and_parts (plain_label l) (all_of plain_label children) a.0 in
    rw (sight_plain k children b.1, sight_plain k others a.1, plain_below k l children b.0) refl

-- where words are not left out all is seen
whole_below : (k : Sought) (l : Label) (f : Forest) → passes_words k ≡ false → sight_below k l f ≡ f
whole_below k (kind if_attribute) f h = rw h refl
whole_below k (kind elif_attribute) f h = rw h refl
whole_below k (kind import_statement) f h = rw h refl
whole_below k (kind diagnostic_directive) f h = rw h refl
whole_below k (kind enable_directive) f h = rw h refl
whole_below k (kind requires_directive) f h = rw h refl
whole_below k _ f h = refl

pub sight_whole : (k : Sought) (f : Forest) → passes_words k ≡ false → sight k f ≡ f
sight_whole k end h = refl
sight_whole k (tree l children others) h = rw (sight_whole k children h, sight_whole k others h, whole_below k l children h) refl

pub statements_whole : (k : Sought) (f : Forest) → seeks_statements k ≡ true → sight k f ≡ f
statements_whole statements f h = sight_whole statements f refl
statements_whole expressions f h = absurd (let x : ⊥ = cc in x)
statements_whole types f h = absurd (let x : ⊥ = cc in x)
statements_whole attribute_lists f h = absurd (let x : ⊥ = cc in x)

pub attributes_whole : (k : Sought) (f : Forest) → seeks_attributes k ≡ true → sight k f ≡ f
attributes_whole attribute_lists f h = sight_whole attribute_lists f refl
attributes_whole expressions f h = absurd (let x : ⊥ = cc in x)
attributes_whole types f h = absurd (let x : ⊥ = cc in x)
attributes_whole statements f h = absurd (let x : ⊥ = cc in x)

-- nothing is found where no label is of the kind
chosen_here : (deep b : Bool) (l : Label) (c : Forest) (here there : List Tree) → b ≡ false → here ≡ [] → there ≡ [] → (if b then record { label = l; children = c } ∷ (if deep then here else []) else here) ++ there ≡ []
chosen_here deep b l c here there p q r = rw (p, q, r) refl

pub chosen_none : (k : Sought) (deep : Bool) (p : Label → Bool) → ((l : Label) → p l ≡ true → picks k l ≡ false) → (f : Forest) → all_of p f ≡ true → chosen k deep f ≡ []
chosen_none k deep p m end h = refl
chosen_none k deep p m (tree l children others) h =
    let a = and_parts (p l && all_of p children) (all_of p others) h in
    let b = and_parts (p l) (all_of p children) a.0 in
    chosen_here deep (picks k l) l children (chosen k deep children) (chosen k deep others) (m l b.0) (chosen_none k deep p m children b.1) (chosen_none k deep p m others a.1)

pub flat_statements : (l : Label) → flat_label l ≡ true → picks statements l ≡ false
flat_statements (at statement_node s e) h = absurd (let x : ⊥ = cc in x)
flat_statements (at expression_node s e) h = refl
flat_statements (kind type_expression) h = refl
flat_statements (kind attributes) h = refl
flat_statements _ h = refl

pub flat_attributes : (l : Label) → flat_label l ≡ true → picks attribute_lists l ≡ false
flat_attributes (kind attributes) h = absurd (let x : ⊥ = cc in x)
flat_attributes (kind type_expression) h = refl
flat_attributes (at expression_node s e) h = refl
flat_attributes (at statement_node s e) h = refl
flat_attributes _ h = refl

pub hollow_picks : (k : Sought) (l : Label) → hollow_label l ≡ true → picks k l ≡ false
hollow_picks k (at expression_node s e) h = absurd (let x : ⊥ = cc in x)
hollow_picks k (kind type_expression) h = absurd (let x : ⊥ = cc in x)
hollow_picks k (at statement_node s e) h = absurd (let x : ⊥ = cc in x)
hollow_picks k (kind attributes) h = absurd (let x : ⊥ = cc in x)
hollow_picks k _ h = refl

pub no_statements : (deep : Bool) (f : Forest) → all_of flat_label f ≡ true → chosen statements deep (sight statements f) ≡ []
no_statements deep f h = ap (chosen statements deep) (sight_whole statements f refl) ∙ chosen_none statements deep flat_label flat_statements f h

pub no_attributes : (deep : Bool) (f : Forest) → all_of flat_label f ≡ true → chosen attribute_lists deep (sight attribute_lists f) ≡ []
no_attributes deep f h = ap (chosen attribute_lists deep) (sight_whole attribute_lists f refl) ∙ chosen_none attribute_lists deep flat_label flat_attributes f h

pub nothing_in : (k : Sought) (deep : Bool) (f : Forest) → all_of hollow_label f ≡ true → chosen k deep f ≡ []
nothing_in k deep f h = chosen_none k deep hollow_label (hollow_picks k) f h

same_below : (l : Label) (f : Forest) → hollow_label l ≡ true → (if is_attributes l then end else f) ≡ f
same_below (kind attributes) f h = absurd (let x : ⊥ = cc in x)
same_below _ f h = refl

pub without_none : (f : Forest) → all_of hollow_label f ≡ true → without_attributes f ≡ f
without_none end h = refl
without_none (tree l children others) h =
    let a = and_parts (hollow_label l && all_of hollow_label children) (all_of hollow_label others) h in
    let b = and_parts (hollow_label l) (all_of hollow_label children) a.0 in
    rw (without_none others a.1, same_below l children b.0) refl
