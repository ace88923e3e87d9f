-- What the judge says of a whole module, where it was told its events.
use Rattle.std.proofs.Common.{◌≡◌, ℕ, Bool, true, List, length, sym, ap, ap₂, ◌∙◌, subst, Vec, Global}
use Rattle.std.specs.Prelude.{◌&&◌, ◌==◌, bytes_eq}
use Rattle.std.proofs.lemmas.Bool.Decides.{Decides-eqb}
use Rattle.std.proofs.lemmas.Slice.Eq.{bytes_eq-Decides}
use Rattle.wesl_tree_names.specs.Path.{Text}
use Rattle.wesl_tree_syntax.specs.Tree.{forest_below}
use Rattle.wesl_tree_syntax.specs.Unit.{forest_of_unit, name_in}
use Rattle.wesl_tree_syntax.specs.declared.span.Spanned.{Spanned}
use Rattle.wesl_tree_syntax.specs.declared.import.ImportStatement.{ImportStatement}
use Rattle.wesl_tree_syntax.specs.declared.declaration.GlobalDirective.{GlobalDirective}
use Rattle.wesl_tree_syntax.specs.declared.declaration.GlobalDeclaration.{GlobalDeclaration}
use Rattle.wesl_scope_occurrences.specs.Occurrences.{occurrences}
use Rattle.wesl_scope_occurrences.specs.Events.{Event, events}
use Rattle.wesl_scope_open.specs.Table.{outer_rows}
use Rattle.wesl_scope_open.specs.Matched.{AreMatched}
use Rattle.wesl_scope_open.proofs.Matched.{events_matched}
use Rattle.wesl_scope_open.proofs.Whole.{unit_numbered}
use Rattle.wesl_scope_numbers.specs.Test.{are_apart, all_read_right}
use Rattle.wesl_scope_meanings.specs.Spellings.{AreSpellings}
use Rattle.wesl_scope_numbers.specs.Judging.{Judging, name_at, judged, apart_at, outside_at, all_below, begun}
use Rattle.wesl_scope_numbers.specs.Judges.{HasMemory, known, Follows}
use Rattle.wesl_scope_numbers.specs.Begun.{IsBegun}
use Rattle.wesl_scope_numbers.specs.declared.judge.Judge.{Judge}
use Rattle.wesl_scope_meanings.proofs.Spelling.{as_many, spelled_below, spelled_so}
use Rattle.wesl_scope_numbers.proofs.Walked.{AreAlike}
use Rattle.wesl_scope_numbers.proofs.Verdict.{same_truth, right_read, apart_read}

-- numbers of spellings are one where names are
are_alike : (names texts : List Text) (alike : List ℕ) → AreSpellings names texts alike → AreAlike names (length texts) alike
are_alike names texts alike s = record {
  as_many = as_many names texts alike s;
  below = spelled_below names texts alike s;
  same = λ i j hi hj.
      same_truth (name_at alike i == name_at alike j) (bytes_eq (name_in names i) (name_in names j))
      (λ e. (bytes_eq-Decides (name_in names i) (name_in names j)).1 (sym (spelled_so names texts alike s i hi) ∙ (ap (name_in texts) ((Decides-eqb (name_at alike i) (name_at alike j)).0 e) ∙ spelled_so names texts alike s j hj)))
      (λ e.
      (Decides-eqb (name_at alike i) (name_at alike j)).1
      (s.apart (name_at alike i) (name_at alike j) (spelled_below names texts alike s i hi) (spelled_below names texts alike s j hj)
      (spelled_so names texts alike s i hi ∙ ((bytes_eq-Decides (name_in names i) (name_in names j)).0 e ∙ sym (spelled_so names texts alike s j hj)))));
}

module _ (names : List Text) (is : Vec (Spanned ImportStatement) Global) (ds : Vec (Spanned GlobalDirective) Global) (gs : Vec (Spanned GlobalDeclaration) Global) (named : forest_below (length names) (forest_of_unit (unit_numbered is ds gs)) ≡ true)
    (old new : Judge) (begins : IsBegun names old) (told : Follows (events (unit_numbered is ds gs)) old new) (kept : HasMemory new) where
  abbrev alike : List ℕ
  alike = old.alike.items

  abbrev met : List Event
  met = events (unit_numbered is ds gs)

  spells : AreAlike names begins.wide alike
  spells = subst (λ w. AreAlike names w alike) (sym begins.spelled.counted) (are_alike names begins.spelled.texts alike begins.spelled.are)

  none_open : AreMatched (length (outer_rows old.visible)) met
  none_open = subst (λ rs. AreMatched (length rs) met) (sym (ap (λ s. s.outer) begins.knows)) (events_matched (unit_numbered is ds gs))

  known_end : known new ≡ judged alike (begun begins.wide (length names)) met
  known_end = told.known_now kept none_open ∙ (ap (λ s. judged alike s met) begins.knows ∙ ap (λ n. judged alike (begun begins.wide n) met) spells.as_many)

  many : length new.alike.items ≡ length names
  many = ap (λ v. length v.items) told.alike ∙ spells.as_many

  at_end : (p : List ℕ → Judging → ℕ → Bool) → all_below (length new.alike.items) (p new.alike.items (known new)) ≡ all_below (length names) (p alike (judged alike (begun begins.wide (length names)) met))
  at_end p = ap₂ (λ n s. all_below n (p new.alike.items s)) many known_end ∙ ap (λ v. all_below (length names) (p v.items (judged alike (begun begins.wide (length names)) met))) told.alike

  pub ended_apart : all_below (length new.alike.items) (apart_at new.alike.items (known new)) ≡ are_apart names (occurrences (unit_numbered is ds gs))
  ended_apart = at_end (λ a s m. apart_at a s m) ∙ apart_read names alike begins.wide spells is ds gs named

  pub ended_right : (new.is_right && all_below (length new.alike.items) (outside_at new.alike.items (known new))) ≡ all_read_right names (occurrences (unit_numbered is ds gs))
  ended_right = ap₂ (λ a b. a && b) (ap (λ s. s.right) known_end) (at_end (λ a s m. outside_at a s m)) ∙ right_read names alike begins.wide spells is ds gs named
