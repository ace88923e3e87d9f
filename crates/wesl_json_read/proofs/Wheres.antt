-- An option that is made of further members of the same object.
use Rattle.std.proofs.Common.{Bool, ◌≡◌, ℕ, List, [], ◌∷◌, true, Option, Some, None, option_map, option_and_then, refl, ap, ◌∙◌}
use Rattle.std.specs.Option.{is_some}
use Rattle.serde_json.specs.Data.{Data, depth}
use Rattle.serde_json.specs.Find.{get}
use Rattle.wesl_tree_names.specs.Path.{Text}
use Rattle.wesl_tree_syntax.specs.Tree.{Label, Tree, Forest, kind, end, tree, before, leaf as leaf_tree, present, absent, branch}
use Rattle.wesl_json_form.specs.Schema.{Spelled, SpelledForest, SpelledLabel, Head, Row, inner_where}
use Rattle.wesl_json_form.specs.Nodes.{whole_form}
use Rattle.wesl_json_form.specs.Reading.{reading, label_in, where_there, children_in, present_tree}
use Rattle.wesl_json_read.specs.Numbers.{IsReadAs, AreReadAs, ReadsRows}
use Rattle.wesl_json_read.proofs.Rows.{IsPlain, plain-kind, over, and-then, none-read}

present-step : (o : Option Spelled) (us : SpelledForest) → option_map (λ u. before u end) o ≡ Some us → option_map {U = Spelled} (λ t. present_tree t) o ≡ Some (record { label = kind present; children = us })
present-step None us h = cc
present-step (Some u) us h = let same : before u end ≡ us = cc in ap (λ cs. Some (record { label = kind present; children = cs })) same

pub present-of : (read : ℕ → Option Spelled) (least : ℕ) (t : Tree) (a b : List Text) → IsReadAs read least t a b → IsReadAs (λ n. option_map (λ u. present_tree u) (read n)) least (branch present (t ∷ [])) a b
present-of read least t a b h =
    let children : AreReadAs (λ n. option_map (λ u. before u end) (read n)) least (before t end) a b = record {
      spelled = λ n names low later. ap (option_map (λ u. before u end)) (h.spelled n names low later);
      numbered = h.numbered;
      closed = h.closed;
      begins = h.begins;
    } in
    over (λ n. option_map (λ u. before u end) (read n)) (λ n. option_map (λ u. present_tree u) (read n)) least (kind present) (kind present) (before t end) a b (plain-kind present) (λ n us low is. present-step (read n) us is) children

there-case : (s : SpelledLabel) (o : Option SpelledForest) (u : Spelled) → option_map (λ t. present_tree t) (option_map {U = Spelled} (λ us. record { label = s; children = us }) o) ≡ Some u → option_and_then (λ is. Some (present_tree (record { label = s; children = is }))) o ≡ Some u
there-case s None u h = cc
there-case s (Some us) u h = h

module _ (spans : Bool) (k : Text) (h : Head) (ins row : Row) (d : Data) where
  abbrev where_in : ℕ → Option Spelled
  where_in n = where_there (is_some (get k d)) (label_in h d) (children_in (reading (whole_form spans) n) ins d)

  absent-read : (a : List Text) → get k d ≡ None → IsReadAs where_in (depth d) (leaf_tree (kind absent)) a a
  absent-read a none =
      over (λ n. Some end) where_in (depth d) (kind absent) (kind absent) end a a (plain-kind absent) (λ n us low e. ap (λ o. where_there (is_some o) (label_in h d) (children_in (reading (whole_form spans) n) ins d)) none ∙ ap (λ cs. Some (record { label = kind absent; children = cs })) (cc)) (none-read (λ n. Some end) (depth d) a (λ n. refl))

  there-read : (e : Data) (l : Label) (s : SpelledLabel) (is : Forest) (a b : List Text) → get k d ≡ Some e → IsPlain l s → label_in h d ≡ Some s → ReadsRows spans ins d is a b → IsReadAs where_in (depth d) (branch present (record { label = l; children = is } ∷ [])) a b
  there-read e l s is a b found plain labelled r =
      let read = λ (n : ℕ). children_in (reading (whole_form spans) n) ins d in
      let outer = λ (n : ℕ). option_map {U = Spelled} (λ us. record { label = s; children = us }) (read n) in
      let inside : IsReadAs outer (depth d) (record { label = l; children = is }) a b = over read outer (depth d) l s is a b plain (λ n us low h. ap (option_map {U = Spelled} (λ vs. record { label = s; children = vs })) h) r.row_is in
      let there = present-of outer (depth d) (record { label = l; children = is }) a b inside in
      record {
        spelled = λ n names low later. ap (λ o. where_there (is_some o) (label_in h d) (read n)) found ∙ ap (λ o. where_there true o (read n)) labelled ∙ there-case s (read n) _ (there.spelled n names low later);
        numbered = there.numbered;
        closed = there.closed;
        begins = there.begins;
      }

  pub where-absent-then : (ts : Forest) (a b : List Text) → get k d ≡ None → ReadsRows spans row d ts a b → ReadsRows spans (inner_where k h ins row) d (tree (kind absent) end ts) a b
  where-absent-then ts a b none r = record { row_is = and-then where_in _ _ (depth d) (leaf_tree (kind absent)) ts a a b (λ n u us one others. rw (one, others)) (absent-read a none) r.row_is }

  pub where-there-then : (e : Data) (l : Label) (s : SpelledLabel) (is ts : Forest) (a b c : List Text) → get k d ≡ Some e → IsPlain l s → label_in h d ≡ Some s → ReadsRows spans ins d is a b → ReadsRows spans row d ts b c → ReadsRows spans (inner_where k h ins row) d (before (branch present (record { label = l; children = is } ∷ [])) ts) a c
  where-there-then e l s is ts a b c found plain labelled i r = record { row_is = and-then where_in _ _ (depth d) (branch present (record { label = l; children = is } ∷ [])) ts a b c (λ n u us one others. rw (one, others)) (there-read e l s is a b found plain labelled i) r.row_is }
