-- A token that is written is laid out behind those before it.
use Rattle.std.proofs.Common.{◌≡◌, ℕ, suc, ◌+◌, map, Bool, true, false, ◌&&◌, List, [], ◌∷◌, ◌++◌, length, Option, Some, None, IsUtf8, refl, ap, sym, ◌∙◌, subst, append-nil, append_assoc, length-append, get_or, drop, take, ◌-◌, ◌<◌, ◌≤◌, arith}
use Rattle.std.proofs.lemmas.List.{length-map}
use Rattle.std.proofs.Math.Seq.{take-length}
use denote.Ref.{Bor}
use Rattle.wesl_tree_base.specs.Borrowed.{texts}
use Rattle.wesl_text_print.proofs.Lists.{all_slots}
use Rattle.std.specs.Prelude.{string_bytes}
use Rattle.std.specs.Prelude.{Result, Ok, Err, OnOk, is_err, is_some}
use Rattle.std.specs.Str.{is_utf8}
use Rattle.std.proofs.lemmas.Bool.{and_from, and_parts}
use Rattle.std.proofs.lemmas.Str.{is_utf8-from_IsUtf8}
use Rattle.wesl_tree_names.specs.Path.{Text}
use Rattle.wesl_text_tokens.specs.Tokens.{Token}
use Rattle.wesl_text_form.specs.Names.{are_names, is_name, is_word}
use Rattle.wesl_text_form.specs.Slots.{Slot, must, same_token}
use Rattle.wesl_text_form.specs.Says.{same_tokens}
use Rattle.wesl_text_tokens.specs.declared.token.PlacedToken.{PlacedToken}
use Rattle.wesl_text_tokens.specs.Views.{token_of}
use Rattle.wesl_text_sink.specs.Finished.{token_at, tokens_at}
use Rattle.wesl_text_form.specs.Spelling.{Slots, followed, named, parted, provided, signed}
use Rattle.wesl_text_tokens.specs.declared.symbol.Symbol.TheVariants as sign
use Rattle.wesl_text_sink.specs.declared.kind.Kind.{Kind}
use Rattle.wesl_text_sink.specs.declared.kind.Kind.TheVariants as kinds
use Rattle.wesl_text_sink.specs.declared.kind.Mark.{Mark}
use Rattle.wesl_text_sink.specs.declared.sink.TextSink.{TextSink}
use Rattle.wesl_text_sink.specs.declared.fault.PrintFault.{PrintFault}
use Rattle.wesl_text_sink.specs.Layout.{Laid, are_apart, are_blanks, are_laid, is_spelled, kind_of, last_kind, layout, mark_at, marks_from, token_by, token_text}
use Rattle.wesl_text_sink.specs.Filling.{Fills, Lays, Shows, rule_slots, slashed_name, slashed_slots}
use Rattle.wesl_text_sink.specs.Words.{is_refusal}

-- ---- a token by its kind

pub kind_by : (k : Kind) (t : Text) → kind_of (token_by k t) ≡ k
kind_by kinds.Name t = refl
kind_by kinds.Number t = refl
kind_by (kinds.Symbol s) t = refl
kind_by kinds.OpenList t = refl
kind_by kinds.CloseList t = refl

spelled_by : (k : Kind) (t : Text) → is_utf8 t ≡ true → is_spelled (token_by k t) ≡ true
spelled_by kinds.Name t u = u
spelled_by kinds.Number t u = u
spelled_by (kinds.Symbol s) t u = refl
spelled_by kinds.OpenList t u = refl
spelled_by kinds.CloseList t u = refl

-- ---- one more token

-- the kind of the last token, if there is one, behind another
abbrev pub last_laid : Option Kind → List Laid → Option Kind
last_laid before [] = before
last_laid before (l ∷ ls) = last_laid (Some (kind_of l.token)) ls

marked_last : (at : ℕ) (l : Laid) (ls : List Laid) → last_kind (marks_from at (l ∷ ls)) ≡ last_laid (Some (kind_of l.token)) ls
marked_last at l [] = refl
marked_last at l (m ∷ ls) = marked_last (at + length l.blanks + length (token_text l.token)) m ls

last_of_marks : (ls : List Laid) → last_kind (marks_from 0 ls) ≡ last_laid None ls
last_of_marks [] = refl
last_of_marks (l ∷ ls) = marked_last 0 l ls

layout_more : (ls : List Laid) (l : Laid) → layout (ls ++ l ∷ []) ≡ layout ls ++ l.blanks ++ token_text l.token
layout_more [] l = append-nil (l.blanks ++ token_text l.token)
layout_more (k ∷ ls) l =
    let first : Text = k.blanks ++ token_text k.token in
    ap (λ (z : Text). first ++ z) (layout_more ls l)
    ∙ sym (append_assoc first (layout ls ++ l.blanks) (token_text l.token))
    ∙ ap (λ (z : Text). z ++ token_text l.token) (sym (append_assoc first (layout ls) l.blanks))

marks_more : (at : ℕ) (ls : List Laid) (l : Laid) → marks_from at (ls ++ l ∷ []) ≡ marks_from at ls ++ mark_at (at + length (layout ls)) l.blanks (kind_of l.token) (token_text l.token) ∷ []
marks_more at [] l =
    let same : at ≡ at + length (layout []) = omega arith in
    ap (λ (n : ℕ). mark_at n l.blanks (kind_of l.token) (token_text l.token) ∷ []) same
marks_more at (k ∷ ls) l =
    let first : Text = k.blanks ++ token_text k.token in
    let next : ℕ = at + length k.blanks + length (token_text k.token) in
    let same : next + length (layout ls) ≡ at + length (layout (k ∷ ls)) = omega (arith, length-append first (layout ls), length-append k.blanks (token_text k.token)) in
    ap (λ (ms : List Mark). mark_at at k.blanks (kind_of k.token) (token_text k.token) ∷ ms)
    (marks_more next ls l ∙ ap (λ (n : ℕ). marks_from next ls ++ mark_at n l.blanks (kind_of l.token) (token_text l.token) ∷ []) same)

laid_more : (before : Option Kind) (ls : List Laid) (l : Laid) → are_laid before ls ≡ true → are_blanks l.blanks ≡ true → is_spelled l.token ≡ true → are_apart (last_laid before ls) l.blanks (kind_of l.token) ≡ true → are_laid before (ls ++ l ∷ []) ≡ true
laid_more before [] l h b s a = and_from (are_blanks l.blanks && is_spelled l.token) _ (and_from (are_blanks l.blanks) (is_spelled l.token) b s) (and_from (are_apart before l.blanks (kind_of l.token)) true a refl)
laid_more before (k ∷ ls) l h b s a =
    let x : ((are_blanks k.blanks && is_spelled k.token) ≡ true) × ((are_apart before k.blanks (kind_of k.token) && are_laid (Some (kind_of k.token)) ls) ≡ true) = and_parts _ _ h in
    let y : (are_apart before k.blanks (kind_of k.token) ≡ true) × (are_laid (Some (kind_of k.token)) ls ≡ true) = and_parts _ _ x.1 in
    and_from (are_blanks k.blanks && is_spelled k.token) _ x.0 (and_from (are_apart before k.blanks (kind_of k.token)) (are_laid (Some (kind_of k.token)) (ls ++ l ∷ [])) y.0 (laid_more (Some (kind_of k.token)) ls l y.1 b s a))

abbrev laid_by : Text → Kind → Text → Laid
laid_by b k t = record { blanks = b; token = token_by k t }

-- the sink shows one token more
shows_more : (k : Kind) (t : Text) (old new : TextSink) (ls : List Laid) (w : Lays k t old new) → is_utf8 t ≡ true → token_text (token_by k t) ≡ t → Shows old ls → Shows new (ls ++ record { blanks = w.blanks; token = token_by k t } ∷ [])
shows_more k t old new ls w u e s = record { text = text; marks = marks; laid = laid } where
  text : string_bytes new.text ≡ layout (ls ++ laid_by w.blanks k t ∷ [])
  text = w.text ∙ ap (λ (z : Text). z ++ w.blanks ++ t) s.text ∙ ap (λ (z : Text). layout ls ++ w.blanks ++ z) (sym e) ∙ sym (layout_more ls (laid_by w.blanks k t))

  marks : new.marks.items ≡ marks_from 0 (ls ++ laid_by w.blanks k t ∷ [])
  marks =
      let same : length (string_bytes old.text) ≡ 0 + length (layout ls) = omega (arith, ap length s.text) in
      w.marks
      ∙ ap (λ (ms : List Mark). ms ++ mark_at (length (string_bytes old.text)) w.blanks k t ∷ []) s.marks
      ∙ ap (λ (n : ℕ). marks_from 0 ls ++ mark_at n w.blanks k t ∷ []) same
      ∙ ap (λ (j : Kind). marks_from 0 ls ++ mark_at (0 + length (layout ls)) w.blanks j t ∷ []) (sym (kind_by k t))
      ∙ ap (λ (z : Text). marks_from 0 ls ++ mark_at (0 + length (layout ls)) w.blanks (kind_of (token_by k t)) z ∷ []) (sym e)
      ∙ sym (marks_more 0 ls (laid_by w.blanks k t))

  apart : are_apart (last_laid None ls) w.blanks (kind_of (token_by k t)) ≡ true
  apart =
      ap (λ (o : Option Kind). are_apart o w.blanks (kind_of (token_by k t))) (sym (last_of_marks ls) ∙ ap last_kind (sym s.marks))
      ∙ ap (λ (j : Kind). are_apart (last_kind old.marks.items) w.blanks j) (kind_by k t)
      ∙ w.apart

  laid : are_laid None (ls ++ laid_by w.blanks k t ∷ []) ≡ true
  laid = laid_more None ls (laid_by w.blanks k t) s.laid w.are_blanks (spelled_by k t u) apart

no_fault : (f : PrintFault) → (let n : Option PrintFault = None in n) ≡ Some f → ⊥
no_fault f h = let z : ⊥ = cc h in z

no_refusal : (o : Option PrintFault) → o ≡ None → is_refusal o ≡ true → ⊥
no_refusal None e h = let z : ⊥ = cc h in z
no_refusal (Some f) e h = absurd (no_fault f (sym e))

-- a token that was written without a fault
pub laying_fills : (k : Kind) (t : Text) (old new : TextSink) → old.fault ≡ None → new.fault ≡ old.fault → IsUtf8 t → token_text (token_by k t) ≡ t → Lays k t old new → Fills (Some (must (token_by k t) ∷ [])) old new
laying_fills k t old new none same u e w = record {
  kept = λ f h. absurd (no_fault f (sym none ∙ h));
  filled = λ n ls s. record {
    slots = must (token_by k t) ∷ [];
    given = refl;
    laid = record { blanks = w.blanks; token = token_by k t } ∷ [];
    tokens = refl;
    shows = shows_more k t old new ls w (is_utf8-from_IsUtf8 t u) e s;
  };
  refused = λ r n. absurd (no_refusal new.fault (same ∙ none) r);
}

-- ---- rules, and names with slashes

pub rule_of_one : (t : Text) → provided (is_word t) (named t ∷ []) ≡ rule_slots (t ∷ [])
rule_of_one t = by (is_word t) where
  by : (b : Bool) → provided b (named t ∷ []) ≡ provided ((b && true) && true) (named t ∷ [])
  by true = refl
  by false = refl

pub rule_of_two : (t u : Text) → followed (provided (is_word t) (named t ∷ [])) (followed (Some (signed sign.Period ∷ [])) (provided (is_word u) (named u ∷ []))) ≡ rule_slots (t ∷ u ∷ [])
rule_of_two t u = by (is_word t) (is_word u) where
  by : (a b : Bool) → followed (provided a (named t ∷ [])) (followed (Some (signed sign.Period ∷ [])) (provided b (named u ∷ []))) ≡ provided ((a && (b && true)) && true) (named t ∷ signed sign.Period ∷ named u ∷ [])
  by true true = refl
  by true false = refl
  by false b = refl

-- the same slots, told otherwise
pub told : {ss us : Slots} {a b : TextSink} → ss ≡ us → Fills ss a b → Fills us a b
told {ss} {us} {a} {b} e h = subst (λ (z : Slots). Fills z a b) e h

pub rule_in_one : (ws : List (Bor Text)) (d : Bor Text) → 1 ≤ length ws → length ws < 2 → provided (is_word (get_or ws 0 d).now) (named (get_or ws 0 d).now ∷ []) ≡ rule_slots (texts ws)
rule_in_one [] d h l = absurd (omega arith)
rule_in_one (w ∷ []) d h l = rule_of_one w.now
rule_in_one (w ∷ v ∷ ws) d h l = absurd (omega arith)

pub rule_in_two : (ws : List (Bor Text)) (d e : Bor Text) → 2 ≤ length ws → length ws < 3 → followed (provided (is_word (get_or ws 0 d).now) (named (get_or ws 0 d).now ∷ [])) (followed (Some (signed sign.Period ∷ [])) (provided (is_word (get_or ws 1 e).now) (named (get_or ws 1 e).now ∷ []))) ≡ rule_slots (texts ws)
rule_in_two [] d e h l = absurd (omega arith)
rule_in_two (w ∷ []) d e h l = absurd (omega arith)
rule_in_two (w ∷ v ∷ []) d e h l = rule_of_two w.now v.now
rule_in_two (w ∷ v ∷ u ∷ ws) d e h l = absurd (omega arith)

-- names with slashes between them
slashed : List Text → List Slot
slashed [] = []
slashed (t ∷ ts) = signed sign.Slash ∷ named t ∷ slashed ts

slashed_more : (a b : Bool) (t : Text) (us : List Slot) → followed (followed (Some (signed sign.Slash ∷ [])) (provided a (named t ∷ []))) (provided b us) ≡ provided (a && b) (signed sign.Slash ∷ named t ∷ us)
slashed_more true true t us = refl
slashed_more true false t us = refl
slashed_more false b t us = refl

slashed_are : (ts : List Text) → slashed_slots ts ≡ provided (are_names ts) (slashed ts)
unfolding slashed
slashed_are [] = refl
slashed_are (t ∷ ts) = ap (λ (z : Slots). followed (slashed_name t) z) (slashed_are ts) ∙ slashed_more (is_name t) (are_names ts) t (slashed ts)

parted_are : (t : Text) (ts : List Text) → named t ∷ slashed ts ≡ parted sign.Slash (t ∷ ts)
unfolding slashed
parted_are t [] = refl
parted_are t (u ∷ us) = ap (λ (z : List Slot). named t ∷ signed sign.Slash ∷ z) (parted_are u us)

first_more : (a b : Bool) (t : Text) (us : List Slot) → followed (provided a (named t ∷ [])) (provided b us) ≡ provided (a && b) (named t ∷ us)
first_more true true t us = refl
first_more true false t us = refl
first_more false b t us = refl

pub names_parted : (t : Text) (ts : List Text) → followed (provided (is_name t) (named t ∷ [])) (slashed_slots ts) ≡ provided (are_names (t ∷ ts)) (parted sign.Slash (t ∷ ts))
names_parted t ts =
    ap (λ (z : Slots). followed (provided (is_name t) (named t ∷ [])) z) (slashed_are ts)
    ∙ first_more (is_name t) (are_names ts) t (slashed ts)
    ∙ ap (λ (z : List Slot). provided (is_name t && are_names ts) z) (parted_are t ts)

-- one name after another
abbrev pub lent_name : Bor Text → Slots
lent_name b = slashed_name b.now

pub lent_names : (ws : List (Bor Text)) → all_slots lent_name ws ≡ slashed_slots (texts ws)
lent_names [] = refl
lent_names (w ∷ ws) = ap (λ (z : Slots). followed (lent_name w) z) (lent_names ws)

pub names_in : (ws : List (Bor Text)) (d : Bor Text) → 1 ≤ length ws → followed (provided (is_name (get_or ws 0 d).now) (named (get_or ws 0 d).now ∷ [])) (slashed_slots (texts (take (length ws - 1) (drop 1 ws)))) ≡ provided (are_names (texts ws)) (parted sign.Slash (texts ws))
names_in [] d h = absurd (omega arith)
names_in (w ∷ ws) d h =
    let few : length (w ∷ ws) - 1 ≡ length ws = omega arith in
    let rest : take (length (w ∷ ws) - 1) ws ≡ ws = ap (λ n. take n ws) few ∙ take-length ws in
    ap (λ (us : List (Bor Text)). followed (provided (is_name w.now) (named w.now ∷ [])) (slashed_slots (texts us))) rest ∙ names_parted w.now (texts ws)

-- ---- comparing tokens

lengths_differ : (ts us : List Token) → (length ts ≡ length us → ⊥) → false ≡ same_tokens ts us
lengths_differ [] [] h = absurd (h refl)
lengths_differ [] (u ∷ us) h = refl
lengths_differ (t ∷ ts) [] h = refl
lengths_differ (t ∷ ts) (u ∷ us) h = by (same_token t u) (lengths_differ ts us (λ e. h (ap suc e))) where
  by : (b : Bool) → false ≡ same_tokens ts us → false ≡ (b && same_tokens ts us)
  by true g = g
  by false g = refl

-- as many of and_from where they are one
pub not_as_many : (t : Text) (ps : List PlacedToken) (ms : List Mark) → (length ps ≡ length ms → ⊥) → false ≡ same_tokens (map (λ p. token_of p.token) ps) (tokens_at t ms)
not_as_many t ps ms h = lengths_differ (map (λ p. token_of p.token) ps) (tokens_at t ms) (λ e. h (sym (length-map ps (λ p. token_of p.token)) ∙ e ∙ length-map ms (token_at t)))

-- ---- answers

pub none_noted : (o : Option PrintFault) → is_some o ≡ false → o ≡ None
none_noted None e = refl
none_noted (Some f) e = let z : ⊥ = cc e in absurd z

pub laid_so : {A E : Type 0} (r : Result A E) (P : Type 0) → is_err r ≡ false → OnOk r P → P
laid_so (Ok x) P e h = h
laid_so (Err f) P e h = let z : ⊥ = cc e in absurd z
