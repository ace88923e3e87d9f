-- Directives, part by part.
use Rattle.std.proofs.Common.{◌≡◌, ℕ, List, ◌∷◌, Bool, true, false, Option, Some, None, refl, sym, ap, ◌∙◌, subst}
use Rattle.std.specs.Option.{is_none}
use Rattle.wesl_tree_names.specs.Path.{Text}
use Rattle.wesl_tree_syntax.specs.Tree.{Kind, Tree, TreeOf, kind, respell, texts}
use Rattle.wesl_tree_syntax.specs.Unit.{name_in}
use Rattle.wesl_text_tokens.specs.Tokens.{Token, name}
use Rattle.wesl_text_form.specs.Spelling.{Label}
use Rattle.wesl_text_form.specs.Productions.{a_bare_directive, some_words}
use Rattle.wesl_text_reading.specs.FirstTokens.{by_word, labelled, words_of_directives}
use Rattle.wesl_text_reading.specs.Leaves.{Read, after, read_leaf, words as comma_words}
use Rattle.wesl_text_reading.specs.Reading.{any, at_level, behind_attributes, ranked, read_node, read_part, read_row}
use Rattle.wesl_text_read.specs.declared.reader.Reader.{Reader}
use Rattle.wesl_text_read.specs.First.{word_first}
use Rattle.wesl_text_read.specs.Leads.{Leads, Reads, ReadsLabel, ReadsTexts, Refuses, ahead}
use Rattle.wesl_text_read.specs.Levels.{inner}
use Rattle.wesl_text_read.proofs.Leading.{next, nothing_there, seen, under}
use Rattle.wesl_text_read_ahead.specs.Ahead.{LooksBehind}
use Rattle.wesl_text_read_ahead.proofs.Behind.{directive-unread, in_fault, look, looked}
use Rattle.wesl_text_read_imports.specs.declared.directive_word.DirectiveWord.{DirectiveWord}
use Rattle.wesl_text_read_imports.specs.declared.directive_word.DirectiveWord.TheVariants as words
use Rattle.wesl_text_read_imports.specs.Directives.{directive_kind}
use Rattle.wesl_text_read_imports.specs.Nodes.{kind_at}

-- ---- words

some-words : (t : Text) (ts : List Token) → word_first ts ≡ Some t → read_leaf some_words ts ≡ Some (texts (comma_words ts).0, (comma_words ts).1)
some-words t (name u ∷ ts) h = refl
some-words t ts h = cc

no-words : (ts : List Token) → word_first ts ≡ None → read_leaf some_words ts ≡ None
no-words (name u ∷ ts) h = cc
no-words ts h = refl

pub words_read : {s m e : Reader} (o : Option Text) (xs : List Text) (wrong : Bool) → word_first (ahead s) ≡ o → wrong ≡ is_none o
    → (wrong ≡ true → Refuses s m) → (wrong ≡ false → m ≡ s) → ReadsTexts (λ ts. Some (comma_words ts)) xs m e → ReadsLabel (read_leaf some_words) (texts xs) s e
words_read {s} {m} {e} None xs wrong first told refused same read =
    let F : List Text → Read (List Text) → Read Label = λ ns r. after r (λ ys us. Some (texts ys, us)) in
    next (nothing_there {g = λ ns. F ns (Some (comma_words (ahead m)))} (refused told) (λ ns. no-words (ahead s) first)) (under F (λ ns. refl) read)
words_read {s} {m} {e} (Some t) xs wrong first told refused same read =
    let F : List Text → Read (List Text) → Read Label = λ ns r. after r (λ ys us. Some (texts ys, us)) in
    let here : ReadsTexts (λ ts. Some (comma_words ts)) xs s e = subst (λ z. ReadsTexts (λ ts. Some (comma_words ts)) xs z e) (same told) read in
    seen (λ ns. some-words t (ahead s) first) (λ ns. refl) (under F (λ ns. refl) here)

-- ---- the directive that begins

module _ (n : ℕ) (ts : List Token) where
  -- a directive, by its kind
  abbrev by_kind : Option Kind → Read (TreeOf Text)
  by_kind o = read_node (ranked (at_level n any) 2) (read_row (ranked (at_level n any) 2) (read_part (ranked (at_level n any) 2))) a_bare_directive (labelled kind o) ts

  kind-known : (w : DirectiveWord) → by_kind (Some (directive_kind w)) ≡ kind_at n a_bare_directive (directive_kind w) ts
  kind-known words.Diagnostic = refl
  kind-known words.Enable = refl
  kind-known words.Requires = refl

  directive-known : (w : DirectiveWord) → by_word words_of_directives (behind_attributes (inner n) ts) ≡ Some (directive_kind w) → inner n a_bare_directive ts ≡ kind_at n a_bare_directive (directive_kind w) ts
  directive-known w h = ap by_kind h ∙ kind-known w

  directive-none : by_word words_of_directives (behind_attributes (inner n) ts) ≡ None → inner n a_bare_directive ts ≡ None
  directive-none h = ap by_kind h

-- what is to be read behind the look is what was to be read before
looked-behind : {s m : Reader} (behind : List Token) → LooksBehind behind s m → Leads (λ _. inner s.levels a_bare_directive (ahead s)) (λ _. inner m.levels a_bare_directive (ahead m)) s m
looked-behind {s} {m} behind looks =
    seen (λ ns. refl) (λ ns. ap (λ l. inner l a_bare_directive (ahead m)) (sym looks.levels))
    (look behind looks (inner s.levels a_bare_directive) (λ h. directive-unread (ranked (at_level s.levels any) 2) (ahead s) h))

pub directive_there : {s m e : Reader} (behind : List Token) (w : DirectiveWord) (t : Tree) → LooksBehind behind s m → Some (directive_kind w) ≡ by_word words_of_directives behind
    → Reads (kind_at m.levels a_bare_directive (directive_kind w)) t m e → Reads (inner s.levels a_bare_directive) t s e
directive_there {s} {m} {e} behind w t looks told read =
    next (looked-behind behind looks)
    (in_fault read (λ clear. seen (λ ns. directive-known m.levels (ahead m) w (ap (by_word words_of_directives) (looked behind looks clear) ∙ sym told)) (λ ns. refl) read))

pub no_directive_there : {s m e : Reader} (behind : List Token) (t : Tree) → LooksBehind behind s m → None ≡ by_word words_of_directives behind → Refuses m e → Reads (inner s.levels a_bare_directive) t s e
no_directive_there {s} {m} {e} behind t looks told wrong =
    let F : Leads (λ ns. let r : Read (TreeOf Text) = None in r) (λ ns. let r : Read (TreeOf Text) = Some (respell (name_in ns) t, ahead e) in r) m e = nothing_there wrong (λ ns. refl) in
    next (looked-behind behind looks)
    (in_fault F (λ clear. seen (λ ns. directive-none m.levels (ahead m) (ap (by_word words_of_directives) (looked behind looks clear) ∙ sym told)) (λ ns. refl) F))
