-- What is listed at the end.
use Rattle.std.proofs.Common.{◌≡◌, Bool, false, ◌++◌, Result, Ok, Err, IfOk, Vec, Global, Bor, append-nil, sym, ap, ◌∙◌}
use Rattle.wesl_tree_syntax.specs.Tree.{Forest, Tree, before, end}
use Rattle.wesl_tree_syntax.specs.View.{type_view}
use Rattle.wesl_tree_syntax.specs.declared.expression.TypeExpression.{TypeExpression}
use Rattle.wesl_visit_collect.specs.Picks.{picks}
use Rattle.wesl_visit_collect.specs.Sought.{Sought}
use Rattle.wesl_visit_collect.specs.Adds.{Adds, Begins, Ends}
use Rattle.wesl_visit_collect.specs.Lent.{views}
use Rattle.wesl_visit_collect.specs.Walk.{chosen, found_in, sight, strictly}
use Rattle.wesl_visit_collect.specs.declared.collected.Collected.{Collected}
use Rattle.wesl_visit_collect.proofs.Seen.{seen_type}

found_strictly : (k : Sought) (deep : Bool) (t : Tree) → picks k t.label ≡ false → found_in k deep (before t end) ≡ strictly k deep t
found_strictly k deep t p = rw p (append-nil (strictly k deep t))

module _ {T : Type 0} {k : Sought} {view : T → Tree} {deep : Bool} {a b : Collected T} where
  listed_by : {f : Forest} (t : Tree) (nodes : Vec (Bor T) Global) → ((d : Bool) → found_in k d f ≡ strictly k d t) → Begins deep a → Adds k view a f b → Ends b nodes → views view nodes.items ≡ strictly k deep t
  listed_by {f = f} t nodes same begun w ended =
      let m = w.added ended.noted in
      ap (λ v. views view v.items) ended.same ∙ m.1 ∙ ap (λ xs. views view xs ++ found_in k a.deep f) begun.none ∙ same a.deep ∙ ap (λ d. strictly k d t) begun.deep

  listed : {E : Type 0} {f : Forest} (t : Tree) (r : Result (Vec (Bor T) Global) E) → ((d : Bool) → found_in k d f ≡ strictly k d t) → Begins deep a → Adds k view a f b → IfOk r (λ nodes. Ends b nodes)
      → IfOk r (λ nodes. views view nodes.items ≡ strictly k deep t)
  listed t (Ok nodes) same begun w ended = listed_by t nodes same begun w ended
  listed t (Err e) same begun w ended = tt

  -- of a tree that is of no kind itself
  pub listed_below : {E : Type 0} (t : Tree) (r : Result (Vec (Bor T) Global) E) → picks k t.label ≡ false → Begins deep a → Adds k view a (before t end) b → IfOk r (λ nodes. Ends b nodes)
      → IfOk r (λ nodes. views view nodes.items ≡ strictly k deep t)
  listed_below t r p begun w ended = listed t r (λ d. found_strictly k d t p) begun w ended

  -- of a type
  pub listed_in_type : {E : Type 0} (t : TypeExpression) (r : Result (Vec (Bor T) Global) E) → Begins deep a → Adds k view a (type_view t).children b → IfOk r (λ nodes. Ends b nodes)
      → IfOk r (λ nodes. views view nodes.items ≡ strictly k deep (type_view t))
  listed_in_type t r begun w ended = listed (type_view t) r (λ d. ap (chosen k d) (sym ((seen_type k t).below (sight k (type_view t).children)))) begun w ended
