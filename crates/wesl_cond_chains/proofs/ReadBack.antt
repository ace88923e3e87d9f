-- A formula that is written reads as itself.
use Rattle.std.proofs.Common.{◌≡◌, List, [], ◌∷◌, Bool, true, false, Option, Some, None, refl, sym, ap, subst}
use Rattle.wesl_cond_features.specs.declared.features.Truth.{Truth}
use Rattle.wesl_cond_features.specs.declared.features.Truth.TheVariants.{Yes, No, Undecided}
use Rattle.wesl_cond_features.specs.Answers.{Answers}
use Rattle.wesl_cond_chains.specs.Formulas.{Form, Spot, always, never, flag, templated, within, negation, conjunction, disjunction, other, type_name, has_arguments, named_as, reading, spots, form, written}
use Rattle.wesl_cond_chains.specs.FormulaResidual.{literal, flag_as, parenthesized, negated_as, both_as, either_as, residual}
use Rattle.wesl_tree_base.specs.declared.span.Span.{Span}
use Rattle.wesl_cond_chains.proofs.Spots.{below_first, by_reading}
use Rattle.wesl_tree_syntax.specs.Tree.{LabelOf, ForestOf, end, tree, kind, truth, unary, binary, literal as literal_kind, parenthesized as parenthesized_kind, type_or_identifier}
use Rattle.wesl_tree_syntax.specs.declared.expression.UnaryOperator.TheVariants.{LogicalNegation}
use Rattle.wesl_tree_syntax.specs.declared.expression.BinaryOperator.TheVariants.{ShortCircuitAnd, ShortCircuitOr}

module _ {I : Type 0} where
  abbrev pub ReadsBack : Form I → Type 0
  ReadsBack f = form (written f) ≡ f

  -- the identifiers and other expressions in it read back
  abbrev pub Leaves : Form I → Type 0
  Leaves always = Unit {0}
  Leaves never = Unit {0}
  Leaves (flag name c) = ReadsBack (flag name c)
  Leaves (templated name c) = ReadsBack (templated name c)
  Leaves (within p f) = Leaves f
  Leaves (negation p f) = Leaves f
  Leaves (conjunction p f q g) = Leaves f × Leaves g
  Leaves (disjunction p f q g) = Leaves f × Leaves g
  Leaves (other l c) = ReadsBack (other l c)

  pub reads_back : (f : Form I) → Leaves f → ReadsBack f
  reads_back always h = refl
  reads_back never h = refl
  reads_back (flag name c) h = h
  reads_back (templated name c) h = h
  reads_back (within p f) h = ap (within p) (reads_back f h)
  reads_back (negation p f) h = ap (negation p) (reads_back f h)
  reads_back (conjunction p f q g) h = rw (reads_back f h.0, reads_back g h.1) refl
  reads_back (disjunction p f q g) h = rw (reads_back f h.0, reads_back g h.1) refl
  reads_back (other l c) h = h

  abbrev pub AllLeaves : List (Spot I) → Type 0
  AllLeaves [] = Unit {0}
  AllLeaves (x ∷ xs) = Leaves x.form × AllLeaves xs

  named_leaves : (o : Option I) (b : Bool) (c : ForestOf I) → type_name c ≡ o → has_arguments c ≡ b → Leaves (named_as o b c)
  named_leaves None b c e d = rw e refl
  named_leaves (Some name) true c e d = rw (e, d) refl
  named_leaves (Some name) false c e d = rw (e, d) refl

  -- one expression, of operands that read back
  reading_leaves : (l : LabelOf I) (c : ForestOf I) (xs : List (Spot I)) → spots c ≡ xs → AllLeaves xs → Leaves (reading l c xs)
  reading_leaves (kind literal_kind) (tree (truth true) end end) xs is h = tt
  reading_leaves (kind literal_kind) (tree (truth false) end end) xs is h = tt
  reading_leaves (kind parenthesized_kind) c (x ∷ []) is h = h.0
  reading_leaves (kind type_or_identifier) c xs is h = named_leaves (type_name c) (has_arguments c) c refl refl
  reading_leaves (unary LogicalNegation) c (x ∷ []) is h = h.0
  reading_leaves (binary ShortCircuitAnd) c (x ∷ y ∷ []) is h = (h.0, h.1.0)
  reading_leaves (binary ShortCircuitOr) c (x ∷ y ∷ []) is h = (h.0, h.1.0)
  reading_leaves l c xs is h = ap (reading l c) is

  spots_leaves_beside : (l : LabelOf I) (c : ForestOf I) → AllLeaves (spots c) → AllLeaves (spots (below_first c)) → (others : ForestOf I) → AllLeaves (spots others) → AllLeaves (spots (tree l c others))
  spots_leaves_beside = by_reading (λ (i : I). i) (λ l c. AllLeaves (spots c) → AllLeaves (spots (below_first c)) → (others : ForestOf I) → AllLeaves (spots others) → AllLeaves (spots (tree l c others)))
      (λ s e l c own inner others rest. (reading_leaves l c (spots c) refl inner, rest))
      (λ l c plain respelled own inner others rest. subst AllLeaves (sym (plain others)) (reading_leaves l c (spots c) refl own, rest))

  -- and of the trees below the first
  spots_leaves_below : (c : ForestOf I) → AllLeaves (spots c) × AllLeaves (spots (below_first c))
  spots_leaves_below end = (tt, tt)
  spots_leaves_below (tree l c others) = let own = spots_leaves_below c in (spots_leaves_beside l c own.0 own.1 others (spots_leaves_below others).0, own.0)

  pub spots_leaves : (c : ForestOf I) → AllLeaves (spots c)
  spots_leaves c = (spots_leaves_below c).0

  flag_leaves : (t : Truth) (name : I) (c : ForestOf I) → Leaves (flag name c) → Leaves (flag_as t name c)
  flag_leaves Yes name c h = tt
  flag_leaves No name c h = tt
  flag_leaves Undecided name c h = h

  parenthesized_leaves : (p : Span) (f : Form I) → Leaves f → Leaves (parenthesized p f)
  parenthesized_leaves p always h = h
  parenthesized_leaves p never h = h
  parenthesized_leaves p (flag name c) h = h
  parenthesized_leaves p (templated name c) h = h
  parenthesized_leaves p (within q f) h = h
  parenthesized_leaves p (negation q f) h = h
  parenthesized_leaves p (conjunction q f r g) h = h
  parenthesized_leaves p (disjunction q f r g) h = h
  parenthesized_leaves p (other l c) h = h

  negated_leaves : (t : Truth) (p : Span) (f : Form I) → Leaves f → Leaves (negated_as t p f)
  negated_leaves Yes p f h = tt
  negated_leaves No p f h = tt
  negated_leaves Undecided p f h = h

  both_leaves : (t u : Truth) (p : Span) (f : Form I) (q : Span) (g : Form I) → Leaves f → Leaves g → Leaves (both_as t u p f q g)
  both_leaves No u p f q g h k = tt
  both_leaves Yes Yes p f q g h k = tt
  both_leaves Yes No p f q g h k = tt
  both_leaves Yes Undecided p f q g h k = k
  both_leaves Undecided Yes p f q g h k = h
  both_leaves Undecided No p f q g h k = tt
  both_leaves Undecided Undecided p f q g h k = (h, k)

  either_leaves : (t u : Truth) (p : Span) (f : Form I) (q : Span) (g : Form I) → Leaves f → Leaves g → Leaves (either_as t u p f q g)
  either_leaves Yes u p f q g h k = tt
  either_leaves No Yes p f q g h k = tt
  either_leaves No No p f q g h k = tt
  either_leaves No Undecided p f q g h k = k
  either_leaves Undecided Yes p f q g h k = tt
  either_leaves Undecided No p f q g h k = h
  either_leaves Undecided Undecided p f q g h k = (h, k)

  pub residual_leaves : (known : Answers I) (f : Form I) → Leaves f → Leaves (residual known f)
  residual_leaves known always h = tt
  residual_leaves known never h = tt
  residual_leaves known (flag name c) h = flag_leaves (known name) name c h
  residual_leaves known (templated name c) h = h
  residual_leaves known (within p f) h = parenthesized_leaves p (residual known f) (residual_leaves known f h)
  residual_leaves known (negation p f) h = negated_leaves (literal (residual known f)) p (residual known f) (residual_leaves known f h)
  residual_leaves known (conjunction p f q g) h =
      both_leaves (literal (residual known f)) (literal (residual known g)) p (residual known f) q (residual known g) (residual_leaves known f h.0) (residual_leaves known g h.1)
  residual_leaves known (disjunction p f q g) h =
      either_leaves (literal (residual known f)) (literal (residual known g)) p (residual known f) q (residual known g) (residual_leaves known f h.0) (residual_leaves known g h.1)
  residual_leaves known (other l c) h = h
