-- What a sink has been given: the tokens that its text is laid out of.
use Rattle.std.specs.Prelude.{◌≡◌, refl, true, false, ◌&&◌, List, [], ◌∷◌, ◌++◌, length, Option, Some, None, string_bytes}
use Rattle.std.proofs.Common.{sym, ap, ◌∙◌, subst, append_assoc}
use Rattle.wesl_tree_base.specs.Pieces.{is_empty}
use Rattle.wesl_tree_names.specs.Path.{Text}
use Rattle.wesl_text_form.specs.Slots.{Slot, fewest, slot_tokens}
use Rattle.wesl_text_form.specs.Names.{are_words, is_name}
use Rattle.wesl_text_form.specs.Spelling.{Slots, followed, is_one_or_two, named, parted, provided, signed}
use Rattle.wesl_text_tokens.specs.declared.symbol.Symbol.TheVariants as sign
use Rattle.wesl_text_sink.specs.declared.kind.Kind.{Kind}
use Rattle.wesl_text_sink.specs.declared.sink.TextSink.{TextSink}
use Rattle.wesl_text_sink.specs.declared.fault.PrintFault.{PrintFault}
use Rattle.wesl_text_sink.specs.Layout.{Laid, layout, laid_tokens, marks_from, are_laid, are_blanks, are_apart, last_kind, mark_at}
use Rattle.wesl_text_sink.specs.Words.{is_refusal}

-- the sink's text is that of these tokens, and it has their marks
pub record Shows (s : TextSink) (ls : List Laid) : Type 0 where
  pub text : string_bytes s.text ≡ layout ls
  pub marks : s.marks.items ≡ marks_from 0 ls
  pub laid : are_laid None ls ≡ true

-- the slots are there, and their fewest tokens have been laid out behind those before
pub record Filled (ss : Slots) (ls : List Laid) (new : TextSink) : Type 0 where
  pub slots : List Slot
  pub given : ss ≡ Some slots
  pub laid : List Laid
  pub tokens : laid_tokens laid ≡ fewest slots
  pub shows : Shows new (ls ++ laid)

-- What a sink does with slots: without a fault their tokens are laid out behind those before; a fault other than a limit is
-- noted where there are no slots alone; and the first fault stays.
pub record Fills (ss : Slots) (old new : TextSink) : Type 0 where
  pub kept : (f : PrintFault) → old.fault ≡ Some f → new.fault ≡ Some f
  pub filled : new.fault ≡ None → (ls : List Laid) → Shows old ls → Filled ss ls new
  pub refused : is_refusal new.fault ≡ true → old.fault ≡ None → ss ≡ None

-- a name with a slash before it, and names, each with one
abbrev pub slashed_name : Text → Slots
slashed_name t = followed (Some (signed sign.Slash ∷ [])) (provided (is_name t) (named t ∷ []))

abbrev pub slashed_slots : List Text → Slots
slashed_slots [] = Some []
slashed_slots (t ∷ ts) = followed (slashed_name t) (slashed_slots ts)

-- the parts of a rule
abbrev pub rule_slots : List Text → Slots
rule_slots ts = provided (are_words ts && is_one_or_two (length ts)) (parted sign.Period ts)

-- ---- what a step does

-- the same text with blanks behind it
pub record Blanked (old new : Text) : Type 0 where
  pub blanks : Text
  pub text : new ≡ old ++ blanks
  pub are_blanks : are_blanks blanks ≡ true

-- the same, and some there are
pub record Parted (old new : Text) : Type 0 where
  pub blanks : Text
  pub text : new ≡ old ++ blanks
  pub are_blanks : are_blanks blanks ≡ true
  pub are_some : is_empty blanks ≡ false

-- the blanks before a token of a kind were written
pub record Parts (k : Kind) (old new : TextSink) : Type 0 where
  pub blanks : Text
  pub text : string_bytes new.text ≡ string_bytes old.text ++ blanks
  pub marks : new.marks ≡ old.marks
  pub are_blanks : are_blanks blanks ≡ true
  pub apart : are_apart (last_kind old.marks.items) blanks k ≡ true

-- a token of a kind was written behind blanks
pub record Lays (k : Kind) (t : Text) (old new : TextSink) : Type 0 where
  pub blanks : Text
  pub text : string_bytes new.text ≡ string_bytes old.text ++ blanks ++ t
  pub marks : new.marks.items ≡ old.marks.items ++ mark_at (length (string_bytes old.text)) blanks k t ∷ []
  pub are_blanks : are_blanks blanks ≡ true
  pub apart : are_apart (last_kind old.marks.items) blanks k ≡ true

-- a fault is noted, unless one was
pub record Notes (f : PrintFault) (old new : TextSink) : Type 0 where
  pub kept : (e : PrintFault) → old.fault ≡ Some e → new.fault ≡ Some e
  pub noted : old.fault ≡ None → new.fault ≡ Some f

-- ---- laws of filling

no_fault : (f : PrintFault) → (let n : Option PrintFault = None in n) ≡ Some f → ⊥
no_fault f h = let z : ⊥ = Prim.cc h in z

-- where there is no fault there was none
none_before : {ss : Slots} (a b : TextSink) → Fills ss a b → b.fault ≡ None → a.fault ≡ None
none_before a b x n = by a.fault refl where
  by : (o : Option PrintFault) → a.fault ≡ o → a.fault ≡ None
  by None e = e
  by (Some f) e = absurd (no_fault f (sym n ∙ x.kept f e))

tokens_both : (ls ms : List Laid) → laid_tokens (ls ++ ms) ≡ laid_tokens ls ++ laid_tokens ms
tokens_both [] ms = refl
tokens_both (l ∷ ls) ms = ap (λ ts. l.token ∷ ts) (tokens_both ls ms)

fewest_both : (ss us : List Slot) → fewest (ss ++ us) ≡ fewest ss ++ fewest us
fewest_both [] us = refl
fewest_both (s ∷ ss) us = ap (λ ts. slot_tokens s ++ ts) (fewest_both ss us) ∙ sym (append_assoc (slot_tokens s) (fewest ss) (fewest us))

none_behind : (ss : Slots) → followed ss None ≡ None
none_behind None = refl
none_behind (Some us) = refl

pub fills_none : (s : TextSink) → Fills (Some []) s s
fills_none s = record {
  kept = λ f e. e;
  filled = λ n ls h. record { slots = []; given = refl; laid = []; tokens = refl; shows = subst (Shows s) (sym (append_none ls)) h };
  refused = λ r n. absurd (no_refusal s.fault n r);
} where
  append_none : (ls : List Laid) → ls ++ [] ≡ ls
  append_none [] = refl
  append_none (l ∷ ls) = ap (λ ms. l ∷ ms) (append_none ls)

  no_refusal : (o : Option PrintFault) → o ≡ None → is_refusal o ≡ true → ⊥
  no_refusal None e h = let z : ⊥ = Prim.cc h in z
  no_refusal (Some f) e h = no_fault f (sym e)

pub fills_more : (ss us : Slots) (a b c : TextSink) → Fills ss a b → Fills us b c → Fills (followed ss us) a c
fills_more ss us a b c x y = record {
  kept = λ f e. y.kept f (x.kept f e);
  filled = λ n ls h. both n ls (x.filled (none_before b c y n) ls h);
  refused = λ r n. by b.fault refl r n;
} where
  both : c.fault ≡ None → (ls : List Laid) → Filled ss ls b → Filled (followed ss us) ls c
  both n ls p = then (y.filled n (ls ++ p.laid) p.shows) where
    then : Filled us (ls ++ p.laid) c → Filled (followed ss us) ls c
    then q = record {
      slots = p.slots ++ q.slots;
      given = ap (λ z. followed z us) p.given ∙ ap (λ z. followed (Some p.slots) z) q.given;
      laid = p.laid ++ q.laid;
      tokens = tokens_both p.laid q.laid ∙ ap (λ z. z ++ laid_tokens q.laid) p.tokens ∙ ap (λ z. fewest p.slots ++ z) q.tokens ∙ sym (fewest_both p.slots q.slots);
      shows = subst (Shows c) (append_assoc ls p.laid q.laid) q.shows;
    }

  by : (o : Option PrintFault) → b.fault ≡ o → is_refusal c.fault ≡ true → a.fault ≡ None → followed ss us ≡ None
  by None e r n = ap (λ z. followed ss z) (y.refused r e) ∙ none_behind ss
  by (Some f) e r n = ap (λ z. followed z us) (x.refused (ap is_refusal (e ∙ sym (y.kept f e)) ∙ r) n)
