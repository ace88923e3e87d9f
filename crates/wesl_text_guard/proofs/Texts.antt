-- With parentheses, an operation has a text where its operands have.
use Rattle.std.proofs.Common.{◌≡◌, Bool, true, false, not, ◌&&◌, if◌then◌else◌, [], ◌∷◌, Some, None, is_some, refl, ap, ◌∙◌}
use Rattle.wesl_tree_names.specs.Path.{Text}
use Rattle.wesl_tree_syntax.specs.Tree.{at, binary, end, expression_node, indexing, kind, named_component, text, tree, unary}
use Rattle.wesl_tree_syntax.specs.declared.expression.BinaryOperator.{BinaryOperator}
use Rattle.wesl_tree_syntax.specs.declared.expression.UnaryOperator.{UnaryOperator}
use Rattle.wesl_text_tokens.specs.declared.symbol.Symbol.TheVariants as is
use Rattle.wesl_text_form.specs.Names.{is_name}
use Rattle.wesl_text_form.specs.Operators.{Class, binary_symbol, class_of, is_tight, operator_class, primary, same_class, takes_left, takes_right, unary_symbol}
use Rattle.wesl_text_form.specs.Productions.{an_expression}
use Rattle.wesl_text_form.specs.Slots.{Slot}
use Rattle.wesl_text_form.specs.Spelling.{Forest, Slots, followed, label_at, named, provided, signed, slots_as}
use Rattle.wesl_text_guard.specs.Laws.{OperationsHaveTexts, PartsHaveTexts, expression_of}
use Rattle.wesl_text_guard.specs.Parentheses.{enclosed, first_label, fit, stands_as_operand, stands_listed, with_parentheses}
use Rattle.wesl_text_guard.proofs.Absorbed.{left_takes_primary, right_takes_primary}
use mathlib.Core.Bool.{and-true}

some_followed : (a b : Slots) → is_some (followed a b) ≡ (is_some a && is_some b)
some_followed None b = refl
some_followed (Some ss) None = refl
some_followed (Some ss) (Some us) = refl

-- slots behind nothing, and before nothing
some_alone : (a : Slots) → is_some (followed a (Some [])) ≡ is_some a
some_alone a = some_followed a (Some []) ∙ and-true (is_some a)

some_behind : (s : Slot) (a : Slots) → is_some (followed (Some (s ∷ [])) a) ≡ is_some a
some_behind s a = some_followed (Some (s ∷ [])) a

label_is : (ts : Forest) → label_at 0 ts ≡ first_label ts
label_is end = refl
label_is (tree l children others) = refl

abbrev seen : Forest → Slots
seen ts = slots_as an_expression (expression_of ts)

-- what stands below an operand
abbrev below : (Class → Bool) → Forest → Forest
below takes ts = (fit (stands_as_operand false takes) (expression_of ts)).children

-- in parentheses an expression has the text that it has without
in_parentheses : (ts : Forest) → is_some (seen (enclosed (at expression_node 0 0) ts)) ≡ is_some (seen ts)
in_parentheses ts =
    some_alone (followed (Some (signed is.ParenLeft ∷ [])) (followed (seen ts) (followed (Some (signed is.ParenRight ∷ [])) (Some []))))
    ∙ (some_behind (signed is.ParenLeft) (followed (seen ts) (Some (signed is.ParenRight ∷ [])))
    ∙ (some_followed (seen ts) (Some (signed is.ParenRight ∷ [])) ∙ and-true (is_some (seen ts))))

module _ (takes : Class → Bool) (p : takes primary ≡ true) (ts : Forest) where
  operand_text : is_some (seen (below takes ts)) ≡ is_some (seen ts)
  operand_text = by (stands_as_operand false takes (first_label ts)) where
    by : (t : Bool) → is_some (seen (if not t then enclosed (at expression_node 0 0) ts else ts)) ≡ is_some (seen ts)
    by true = refl
    by false = in_parentheses ts

  operand_taken : takes (class_of (label_at 0 (below takes ts))) ≡ true
  operand_taken = by (takes (class_of (first_label ts))) refl where
    by : (t : Bool) → takes (class_of (first_label ts)) ≡ t → takes (class_of (label_at 0 (if not (t && true) then enclosed (at expression_node 0 0) ts else ts))) ≡ true
    by true e = ap (λ l. takes (class_of l)) (label_is ts) ∙ e
    by false e = p

-- an index has the text that it has
index_text : (ts : Forest) → is_some (seen (fit (stands_listed false) (expression_of ts)).children) ≡ is_some (seen ts)
index_text ts = refl

only_where : (b : Bool) (a : Slots) → b ≡ true → is_some (if b then a else None) ≡ is_some a
only_where b a e = ap (λ z. is_some (if z then a else None)) e

unary_text : (o : UnaryOperator) (ts : Forest) → is_some (if is_tight (class_of (label_at 0 (below is_tight ts))) && true then followed (Some (signed (unary_symbol o) ∷ [])) (followed (seen (below is_tight ts)) (Some [])) else None) ≡ is_some (seen ts)
unary_text o ts =
    let w : Forest = below is_tight ts in
    let a : Slots = followed (seen w) (Some []) in
    only_where (is_tight (class_of (label_at 0 w)) && true) (followed (Some (signed (unary_symbol o) ∷ [])) a) (ap (λ z. z && true) (operand_taken is_tight refl ts))
    ∙ (some_behind (signed (unary_symbol o)) a ∙ (some_alone (seen w) ∙ operand_text is_tight refl ts))

two_texts : (f g : Class → Bool) → f primary ≡ true → g primary ≡ true → (s : Slot) (behind : Slots) (ts us : Forest) → is_some behind ≡ true
    → is_some (followed (seen (below f ts)) (followed (Some (s ∷ [])) (followed (seen (below g us)) behind))) ≡ (is_some (seen ts) && is_some (seen us))
two_texts f g p q s behind ts us h =
    some_followed (seen (below f ts)) (followed (Some (s ∷ [])) (followed (seen (below g us)) behind))
    ∙ (ap (λ z. is_some (seen (below f ts)) && z) (some_behind s (followed (seen (below g us)) behind) ∙ (some_followed (seen (below g us)) behind
    ∙ (ap (λ z. is_some (seen (below g us)) && z) h ∙ (and-true (is_some (seen (below g us))) ∙ operand_text g q us))))
    ∙ ap (λ z. z && is_some (seen us)) (operand_text f p ts))

both_taken : (f g : Class → Bool) → f primary ≡ true → g primary ≡ true → (ts us : Forest) → ((f (class_of (label_at 0 (below f ts))) && g (class_of (label_at 0 (below g us)))) && true) ≡ true
both_taken f g p q ts us = ap (λ z. (z && g (class_of (label_at 0 (below g us)))) && true) (operand_taken f p ts) ∙ ap (λ z. z && true) (operand_taken g q us)

pub operations_have_texts : OperationsHaveTexts
operations_have_texts = (λ o ts. of_unary o (with_parentheses false ts), λ o ts us. of_binary o (with_parentheses false ts) (with_parentheses false us)) where
  of_unary : (o : UnaryOperator) (ts : Forest) → is_some (slots_as an_expression (expression_of (tree (unary o) (tree (at expression_node 0 0) (below is_tight ts) end) end))) ≡ is_some (seen ts)
  of_unary o ts =
      some_alone (if is_tight (class_of (label_at 0 (below is_tight ts))) && true then followed (Some (signed (unary_symbol o) ∷ [])) (followed (seen (below is_tight ts)) (Some [])) else None) ∙ unary_text o ts

  of_binary : (o : BinaryOperator) (ts us : Forest)
      → let f : Class → Bool = takes_left (operator_class o) in let g : Class → Bool = takes_right (operator_class o) in
      is_some (slots_as an_expression (expression_of (tree (binary o) (tree (at expression_node 0 0) (below f ts) (tree (at expression_node 0 0) (below g us) end)) end))) ≡ (is_some (seen ts) && is_some (seen us))
  of_binary o ts us =
      let f : Class → Bool = takes_left (operator_class o) in
      let g : Class → Bool = takes_right (operator_class o) in
      let p : f primary ≡ true = left_takes_primary (operator_class o) in
      let q : g primary ≡ true = right_takes_primary (operator_class o) in
      let a : Slots = followed (seen (below f ts)) (followed (Some (signed (binary_symbol o) ∷ [])) (followed (seen (below g us)) (Some []))) in
      some_alone (if (f (class_of (label_at 0 (below f ts))) && g (class_of (label_at 0 (below g us)))) && true then a else None)
      ∙ (only_where ((f (class_of (label_at 0 (below f ts))) && g (class_of (label_at 0 (below g us)))) && true) a (both_taken f g p q ts us)
      ∙ two_texts f g p q (signed (binary_symbol o)) (Some []) ts us refl)

pub parts_have_texts : PartsHaveTexts
parts_have_texts = (λ ts us. of_element (with_parentheses false ts) (with_parentheses false us), λ ts n. of_component (with_parentheses false ts) n) where
  base : Class → Bool
  base = same_class primary

  of_element : (ts us : Forest) → is_some (slots_as an_expression (expression_of (tree (kind indexing) (tree (at expression_node 0 0) (below (same_class primary) ts) (tree (at expression_node 0 0) us end)) end))) ≡ (is_some (seen ts) && is_some (seen us))
  of_element ts us =
      let f : Class → Bool = same_class primary in
      let b : Slots = followed (Some (signed is.BracketRight ∷ [])) (Some []) in
      let a : Slots = followed (seen (below f ts)) (followed (Some (signed is.BracketLeft ∷ [])) (followed (seen us) b)) in
      some_alone (if f (class_of (label_at 0 (below f ts))) && true then a else None)
      ∙ (only_where (f (class_of (label_at 0 (below f ts))) && true) a (ap (λ z. z && true) (operand_taken f refl ts))
      ∙ two_texts f (λ c. true) refl refl (signed is.BracketLeft) b ts us refl)

  of_component : (ts : Forest) (n : Text) → is_some (slots_as an_expression (expression_of (tree (kind named_component) (tree (at expression_node 0 0) (below (same_class primary) ts) (tree (text n) end end)) end))) ≡ (is_some (seen ts) && is_name n)
  of_component ts n =
      let f : Class → Bool = same_class primary in
      let c : Slots = provided (is_name n) (named n ∷ []) in
      let a : Slots = followed (seen (below f ts)) (followed (Some (signed is.Period ∷ [])) (followed c (Some []))) in
      some_alone (if f (class_of (label_at 0 (below f ts))) && true then a else None)
      ∙ (only_where (f (class_of (label_at 0 (below f ts))) && true) a (ap (λ z. z && true) (operand_taken f refl ts))
      ∙ (some_followed (seen (below f ts)) (followed (Some (signed is.Period ∷ [])) (followed c (Some [])))
      ∙ (ap (λ z. is_some (seen (below f ts)) && z) (some_behind (signed is.Period) (followed c (Some [])) ∙ (some_alone c ∙ by (is_name n)))
      ∙ ap (λ z. z && is_name n) (operand_text f refl ts)))) where
        by : (b : Bool) → is_some (if b then Some (named n ∷ []) else None) ≡ b
        by true = refl
        by false = refl
