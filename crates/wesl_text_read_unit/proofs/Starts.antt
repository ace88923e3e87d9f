-- The declaration that begins.
use Rattle.std.proofs.Common.{◌≡◌, ℕ, List, Option, Some, None, refl, sym, ap, ◌∙◌}
use Rattle.wesl_tree_names.specs.Path.{Text}
use Rattle.wesl_tree_syntax.specs.Tree.{Tree, TreeOf, respell}
use Rattle.wesl_tree_syntax.specs.Unit.{name_in}
use Rattle.wesl_text_tokens.specs.Tokens.{Token}
use Rattle.wesl_text_form.specs.Spelling.{Label}
use Rattle.wesl_text_form.specs.Productions.{a_bare_declaration}
use Rattle.wesl_text_reading.specs.FirstTokens.{declaration_label}
use Rattle.wesl_text_reading.specs.Leaves.{Read}
use Rattle.wesl_text_reading.specs.Reading.{any, at_level, behind_attributes, ranked, read_node, read_part, read_row}
use Rattle.wesl_text_read.specs.declared.reader.Reader.{Reader}
use Rattle.wesl_text_read.specs.Leads.{Leads, Reads, Refuses, ahead}
use Rattle.wesl_text_read.specs.Levels.{inner}
use Rattle.wesl_text_read.proofs.Leading.{next, nothing_there, seen, under}
use Rattle.wesl_text_read_ahead.specs.Ahead.{LooksBehind}
use Rattle.wesl_text_read_ahead.proofs.Behind.{declaration-unread, in_fault, look, looked}
use Rattle.wesl_text_read_imports.specs.Nodes.{kind_at}
use Rattle.wesl_text_read_unit.specs.declared.declaration_start.DeclarationStart.{DeclarationStart}
use Rattle.wesl_text_read_unit.specs.declared.declaration_start.DeclarationStart.TheVariants as starts
use Rattle.wesl_text_read_unit.specs.Starts.{start_kind, start_label}

module _ (n : ℕ) (ts : List Token) where
  -- a declaration, by its label
  abbrev by_label : Option Label → Read (TreeOf Text)
  by_label o = read_node (ranked (at_level n any) 4) (read_row (ranked (at_level n any) 4) (read_part (ranked (at_level n any) 4))) a_bare_declaration o ts

  kind-known : (s : DeclarationStart) → by_label (Some (start_label s)) ≡ kind_at n a_bare_declaration (start_kind s) ts
  kind-known starts.Void = refl
  kind-known starts.Variable = refl
  kind-known starts.Assertion = refl
  kind-known starts.Alias = refl
  kind-known starts.Struct = refl
  kind-known starts.Function = refl

  declaration-known : (s : DeclarationStart) → declaration_label (behind_attributes (inner n) ts) ≡ Some (start_label s) → inner n a_bare_declaration ts ≡ kind_at n a_bare_declaration (start_kind s) ts
  declaration-known s h = ap by_label h ∙ kind-known s

  declaration-none : declaration_label (behind_attributes (inner n) ts) ≡ None → inner n a_bare_declaration ts ≡ None
  declaration-none h = ap by_label h

module _ {s m : Reader} (behind : List Token) (looks : LooksBehind behind s m) where
  -- what is to be read behind the look is what was to be read before
  looked-behind : Leads (λ _. inner s.levels a_bare_declaration (ahead s)) (λ _. inner m.levels a_bare_declaration (ahead m)) s m
  looked-behind =
      seen (λ ns. refl) (λ ns. ap (λ l. inner l a_bare_declaration (ahead m)) (sym looks.levels))
      (look behind looks (inner s.levels a_bare_declaration) (λ h. declaration-unread (ranked (at_level s.levels any) 4) (ahead s) h))

  pub label-known : (o : Option Label) → o ≡ declaration_label behind → m.fault ≡ None → o ≡ declaration_label (behind_attributes (inner m.levels) (ahead m))
  label-known o told clear = told ∙ sym (ap declaration_label (looked behind looks clear))

  pub declaration_there : {e : Reader} (t : Tree) → Reads (inner m.levels a_bare_declaration) t m e → Reads (inner s.levels a_bare_declaration) t s e
  declaration_there {e} t read = next looked-behind read

  pub kind_there : {e : Reader} (d : DeclarationStart) (t : Tree) → Some (start_label d) ≡ declaration_label behind → Reads (kind_at m.levels a_bare_declaration (start_kind d)) t m e → Reads (inner s.levels a_bare_declaration) t s e
  kind_there {e} d t told read =
      next looked-behind
      (in_fault read (λ clear. seen (λ ns. declaration-known m.levels (ahead m) d (sym (label-known (Some (start_label d)) told clear))) (λ ns. refl) read))

  -- where none begins, a fault is noted behind the attributes
  pub no_declaration_there : {a e : Reader} {f g : List Text → Read (TreeOf Text)} (t : Tree) → None ≡ declaration_label behind → Leads f g m a → Refuses a e → Reads (inner s.levels a_bare_declaration) t s e
  no_declaration_there {a} {e} {f} {g} t told attributes wrong =
      let F : List Text → Read (TreeOf Text) → Read (TreeOf Text) = λ ns r. None in
      let none : Leads (λ ns. F ns (f ns)) (λ ns. let r : Read (TreeOf Text) = Some (respell (name_in ns) t, ahead e) in r) m e = next (under F (λ ns. refl) attributes) (nothing_there wrong (λ ns. refl)) in
      next looked-behind
      (in_fault none (λ clear. seen (λ ns. declaration-none m.levels (ahead m) (sym (label-known None told clear))) (λ ns. refl) none))
