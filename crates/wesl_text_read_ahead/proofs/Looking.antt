-- What is looked at and put back.
use Rattle.std.proofs.Common.{◌≡◌, List, length, true, false, Option, Some, None, refl, sym, ap, ◌∙◌, subst, true≢false, arith}
use Rattle.std.specs.Prelude.{IfSome, is_some}
use Rattle.wesl_tree_names.specs.Path.{Text}
use Rattle.wesl_tree_interner.specs.Interned.{texts_of}
use Rattle.wesl_tree_syntax.specs.Tree.{Tree, TreeOf, attributes, kind}
use Rattle.wesl_text_tokens.specs.Tokens.{Token}
use Rattle.wesl_text_form.specs.Productions.{an_attribute}
use Rattle.wesl_text_reading.specs.Leaves.{Read, after}
use Rattle.wesl_text_reading.specs.Reading.{attributes_first, node_of}
use Rattle.wesl_text_read.specs.declared.reader.Reader.{Reader}
use Rattle.wesl_text_read.specs.Attributes.{run_at}
use Rattle.wesl_text_read.specs.Leads.{Begins, Leads, Reads, ahead, is_memory, names_of}
use Rattle.wesl_text_read.specs.Levels.{inner}
use Rattle.wesl_text_read.proofs.Leading.{once_clear, seen, under}
use Rattle.wesl_text_read.proofs.Levels.{after-one}
use Rattle.wesl_text_read_ahead.specs.Ahead.{LooksBehind}

-- the tokens that were read come back
pub put_back : {A : Type 0} {f g : List Text → Option A} {s m e : Reader} → e.fault ≡ m.fault → e.names ≡ m.names → e.levels ≡ m.levels → ahead e ≡ ahead s → Leads f g s m → Leads f g s e
put_back {A} {f} {g} {s} {m} {e} fault names levels tokens p = record {
  read = λ clear ns b. p.read (sym fault ∙ clear) ns (subst (λ z. Begins (texts_of z) ns) names b);
  refused = λ none. subst (λ o. IfSome o (λ x. is_memory x ≡ false → (ns : List Text) → Begins (names_of e) ns → f ns ≡ None)) (sym fault)
      (subst (λ z. IfSome m.fault (λ x. is_memory x ≡ false → (ns : List Text) → Begins (texts_of z) ns → f ns ≡ None)) (sym names) (p.refused none));
  kept = λ x is. fault ∙ p.kept x is;
  begins = subst (λ z. Begins (names_of s) (texts_of z)) (sym names) p.begins;
  levels = levels ∙ p.levels;
  fewer = let same : length (ahead e) ≡ length (ahead s) = ap (λ z. length z) tokens in omega arith;
}

-- ---- attributes

-- they are read
pub read_over : {s m : Reader} (t : Tree) → Reads (run_at s.levels attributes an_attribute) t s m
    → Leads {A = List Token × List Token} (λ _. after (attributes_first (inner s.levels) (ahead s)) (λ f us. Some (us, ahead s))) (λ _. Some (ahead m, ahead s)) s m
read_over {s} {m} t p =
    let K : TreeOf Text → List Token → Option (List Token × List Token) = λ u us. Some (us, ahead s) in
    seen (λ ns. after-one (attributes_first (inner s.levels) (ahead s)) (node_of (kind attributes)) K) (λ ns. refl)
    (under (λ ns (r : Read (TreeOf Text)). after r K) (λ ns. refl) p)

-- a fault is noted
pub fault_there : {s m : Reader} (t : Tree) → Reads (run_at s.levels attributes an_attribute) t s m → is_some m.fault ≡ true → LooksBehind (ahead m) s m
fault_there {s} {m} t p faulty = once_clear (λ clear ns. absurd (true≢false (sym faulty ∙ ap is_some clear))) (read_over t p)

-- they come back
pub come_back : {s m e : Reader} (t : Tree) → e.fault ≡ m.fault → e.names ≡ m.names → e.levels ≡ m.levels → ahead e ≡ ahead s → Reads (run_at s.levels attributes an_attribute) t s m → LooksBehind (ahead m) s e
come_back {s} {m} {e} t fault names levels tokens p =
    once_clear (λ clear ns. ap (λ z. let o : Option (List Token × List Token) = Some (ahead m, z) in o) (sym tokens)) (put_back fault names levels tokens (read_over t p))
