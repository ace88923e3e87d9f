-- What is seen behind attributes.
use Rattle.std.proofs.Common.{◌≡◌, ℕ, List, [], ◌∷◌, length, Bool, true, false, not, if◌then◌else◌, Option, Some, None, refl, sym, ap, ◌∙◌, subst, true≢false, arith}
use Rattle.std.specs.Option.{option_and_then}
use Rattle.std.specs.Prelude.{IfSome}
use Rattle.wesl_tree_names.specs.Path.{Text}
use Rattle.wesl_tree_interner.specs.Interned.{texts_of}
use Rattle.wesl_tree_syntax.specs.Tree.{Tree, TreeOf, absent, attributes, before, branch, end, kind, leaf, present, respell}
use Rattle.wesl_tree_syntax.specs.Unit.{name_in}
use Rattle.wesl_text_tokens.specs.Tokens.{Token}
use Rattle.wesl_text_form.specs.Slots.{behind_if_there, comes_first}
use Rattle.wesl_text_form.specs.Spelling.{Forest}
use Rattle.wesl_text_form.specs.Productions.{Sort, an_attribute, nothing, own}
use Rattle.wesl_text_reading.specs.FirstTokens.{begins_sort, behind_first, has_attributes}
use Rattle.wesl_text_reading.specs.Leaves.{Read, after}
use Rattle.wesl_text_reading.specs.Reading.{attributes_first, behind_attributes, node_of}
use Rattle.wesl_text_read.specs.declared.reader.Fault.{Fault}
use Rattle.wesl_text_read.specs.declared.reader.Fault.TheVariants as faults
use Rattle.wesl_text_read.specs.declared.reader.Reader.{Reader}
use Rattle.wesl_text_read.specs.Attributes.{run_at}
use Rattle.wesl_text_read.specs.Leads.{Begins, Leads, Reads, ahead, is_memory, names_of}
use Rattle.wesl_text_read.specs.Levels.{inner}
use Rattle.wesl_text_read.specs.Parts.{may_at, row_at}
use Rattle.wesl_text_read.proofs.Leading.{next, seen, under}
use Rattle.wesl_text_read_statements.specs.Statements.{Foresees, TellsBehind, is_text_fault}

-- what is told of the tokens behind attributes
abbrev Told : Type 0
Told = List Token × List Token

-- the tokens behind what was read
abbrev behind_read : Read (TreeOf Text) → List Token
behind_read r = elim r as (λ _. List Token) [ None ↦ [] | Some x ↦ x.1 ]

behind-run : (r : Read Forest) → elim r as (λ _. List Token) [ None ↦ [] | Some x ↦ x.1 ] ≡ behind_read (after r (λ f us. Some (node_of (kind attributes) f, us)))
behind-run None = refl
behind-run (Some x) = refl

told-as : (n : ℕ) (ts us : List Token) (r : Read (TreeOf Text)) → run_at n attributes an_attribute ts ≡ r → behind_read r ≡ us → ◌≡◌ {A = Option Told} (Some (behind_attributes (inner n) ts, ts)) (Some (us, ts))
told-as n ts us r e h = ap (λ z. let o : Option Told = Some (z, ts) in o) (behind-run (attributes_first (inner n) ts) ∙ (ap behind_read e ∙ h))

cannot-be : {A : Type 0} (x : A) → ◌≡◌ {A = Option A} (Some x) None → ⊥
cannot-be x h = cc

text-fault : (o : Option Fault) (f : Fault) → o ≡ Some f → is_memory f ≡ false → is_text_fault o ≡ true
text-fault o f e h = ap is_text_fault e ∙ ap not h

-- attributes have been read, and the tokens come back
pub looked_over : {s m e : Reader} (t : Tree) (was_clear : Bool) → (s.fault ≡ None → was_clear ≡ true)
    → e.fault ≡ m.fault → e.names ≡ m.names → e.levels ≡ m.levels → ahead e ≡ ahead s
    → (was_clear ≡ true → is_text_fault m.fault ≡ false)
    → Reads (run_at s.levels attributes an_attribute) t s m → TellsBehind (ahead m) s e
looked_over {s} {m} {e} t was_clear told fault names levels tokens none p = record {
  read = λ clear ns b.
      told-as s.levels (ahead s) (ahead m) (Some (respell (name_in ns) t, ahead m)) (p.read (sym fault ∙ clear) ns (subst (λ z. Begins (texts_of z) ns) names b)) refl
      ∙ ap (λ z. let o : Option Told = Some (ahead m, z) in o) (sym tokens);
  refused = λ clear. faulted e.fault refl (λ f is told_text. absurd (true≢false (sym (text-fault m.fault f (sym fault ∙ is) told_text) ∙ none (told clear))));
  kept = λ x is. fault ∙ p.kept x is;
  begins = subst (λ z. Begins (names_of s) (texts_of z)) (sym names) p.begins;
  levels = levels ∙ p.levels;
  fewer = let same : length (ahead e) ≡ length (ahead s) = ap (λ z. length z) tokens in omega arith;
}
  where
    faulted : {Q : Fault → Type 0} (o : Option Fault) → e.fault ≡ o → ((f : Fault) → e.fault ≡ Some f → Q f) → IfSome o Q
    faulted None is more = tt
    faulted (Some f) is more = more f is

-- attributes cannot be read, and the tokens come back
pub looked_in_vain : {s m e : Reader} (t : Tree) → s.fault ≡ None → is_text_fault m.fault ≡ true
    → e.fault ≡ None → e.names ≡ m.names → e.levels ≡ m.levels → ahead e ≡ ahead s
    → Reads (run_at s.levels attributes an_attribute) t s m → TellsBehind [] s e
looked_in_vain {s} {m} {e} t clear faulty none names levels tokens p = record {
  read = λ still ns b.
      told-as s.levels (ahead s) [] None (noted m.fault faulty (p.refused clear) ns (subst (λ z. Begins (texts_of z) ns) names b)) refl
      ∙ ap (λ z. let o : Option Told = Some ([], z) in o) (sym tokens);
  refused = λ before. subst (λ o. IfSome o (λ x. is_memory x ≡ false → (ns : List Text) → Begins (names_of e) ns → ◌≡◌ {A = Option Told} (Some (behind_attributes (inner s.levels) (ahead s), ahead s)) None)) (sym none) tt;
  kept = λ x is. absurd (cannot-be x (sym is ∙ clear));
  begins = subst (λ z. Begins (names_of s) (texts_of z)) (sym names) p.begins;
  levels = levels ∙ p.levels;
  fewer = let same : length (ahead e) ≡ length (ahead s) = ap (λ z. length z) tokens in omega arith;
}
  where
    no : (f : Fault) → not (is_memory f) ≡ true → is_memory f ≡ false
    no faults.Memory h = cc
    no f h = refl

    noted : {P : Type 0} (o : Option Fault) → is_text_fault o ≡ true → IfSome o (λ x. is_memory x ≡ false → P) → P
    noted None h p = cc
    noted (Some f) h p = p (no f h)

-- ---- whether a node begins

pub foreseen : {s e : Reader} (x : Sort) (b : Bool) (us : List Token) → has_attributes x ≡ true → b ≡ begins_sort x us → TellsBehind us s e → Foresees x b s e
foreseen {s} {e} x b us has same p =
    let G : Told → Option (Bool × List Token) = λ y. Some (begins_sort x y.0, y.1) in
    seen
    (λ ns. ap (λ (c : Bool). let o : Option (Bool × List Token) = Some ((if c then begins_sort x (behind_attributes (inner s.levels) (ahead s)) else begins_sort x (ahead s)), ahead s) in o) has)
    (λ ns. ap (λ (c : Bool). let o : Option (Bool × List Token) = Some (c, ahead e) in o) (sym same))
    (under (λ ns (o : Option Told). option_and_then G o) (λ ns. refl) p)

-- a part of one node that need not stand
module _ {s m : Reader} (x : Sort) (b : Bool) (told : Foresees x b s m) where
  abbrev part_by : Bool × List Token → Read (TreeOf Text)
  part_by y = elim y.0 as (λ _. Read (TreeOf Text)) [ false ↦ Some (leaf (kind absent), y.1) | true ↦ after (row_at s.levels (own x nothing) y.1) (λ f us. Some (node_of (kind present) f, us)) ]

  part_told : Leads (λ _. may_at s.levels (own x nothing) (ahead s)) (λ _. part_by (b, ahead m)) s m
  part_told = under (λ ns (o : Option (Bool × List Token)). option_and_then part_by o) (λ ns. refl) told

  pub part_absent : b ≡ false → Reads (may_at s.levels (own x nothing)) (leaf (kind absent)) s m
  part_absent none = seen (λ ns. refl) (λ ns. ap (λ (c : Bool). part_by (c, ahead m)) none) part_told

  part-one : (r : Read (TreeOf Text)) → after (after r (λ t us. after (let f : Read Forest = Some (end, us) in f) (λ f vs. Some (before t f, vs)))) (λ f us. Some (node_of (kind present) f, us)) ≡ after r (λ t us. let q : Read (TreeOf Text) = Some (branch present (t ∷ []), us) in q)
  part-one None = refl
  part-one (Some y) = refl

  pub part_present : {e : Reader} (t : Tree) → b ≡ true → Reads (inner m.levels x) t m e → Reads (may_at s.levels (own x nothing)) (branch present (t ∷ [])) s e
  part_present {e} t some read =
      let here : Reads (inner s.levels x) t m e = subst (λ (l : ℕ). Reads (inner l x) t m e) told.levels read in
      next
      (seen (λ ns. refl) (λ ns. ap (λ (c : Bool). part_by (c, ahead m)) some ∙ part-one (inner s.levels x (ahead m))) part_told)
      (under (λ ns (r : Read (TreeOf Text)). after r (λ t us. let q : Read (TreeOf Text) = Some (branch present (t ∷ []), us) in q)) (λ ns. refl) here)

-- ---- tokens that need not stand

pub behind-there : (t : Token) (ts : List Token) → comes_first t ts ≡ true → ◌≡◌ {A = Option (List Token)} (Some (behind_if_there t ts)) (Some (behind_first ts))
behind-there t [] h = cc
behind-there t (u ∷ us) h = ap (λ (b : Bool). let o : Option (List Token) = Some (if b then us else u ∷ us) in o) h
