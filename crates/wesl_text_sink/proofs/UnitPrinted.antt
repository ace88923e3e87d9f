-- What a finished sink hands out of a unit that was printed into it.
use Rattle.std.proofs.Common.{◌≡◌, ◌⊎◌, inl, inr, Bool, true, false, if◌then◌else◌, List, [], Option, Some, None, is_some, option_and_then, Result, Ok, Err, String, Global, string_bytes, refl, sym as turned, ap, ◌∙◌, subst}
use Rattle.std.proofs.lemmas.Str.{IsUtf8-string_bytes}
use Rattle.wesl_tree_names.specs.Path.{Text}
use Rattle.wesl_tree_syntax.specs.Unit.{UnitOf}
use Rattle.wesl_text_tokens.specs.Tokens.{Token}
use Rattle.wesl_text_form.specs.Says.{IsWritable, are_read_as_meant, as_meant, spelling}
use Rattle.wesl_text_form.specs.Slots.{Slot, fewest}
use Rattle.wesl_text_form.specs.Spelling.{Slots, slots}
use Rattle.wesl_text_sound.specs.Laws.{AreTokens}
use Rattle.wesl_text_sink.specs.declared.fault.PrintFault.{PrintFault}
use Rattle.wesl_text_sink.specs.declared.fault.PrintFault.TheVariants as told
use Rattle.wesl_text_sink.specs.declared.sink.TextSink.{TextSink}
use Rattle.wesl_text_sink.specs.Filling.{Filled, Fills, Shows}
use Rattle.wesl_text_sink.specs.Finished.{Finishes, IsResult}
use Rattle.wesl_text_sink.specs.Laws.{IsPrinted, UnitsArePrinted}
use Rattle.wesl_text_sink.specs.Layout.{laid_tokens}
use Rattle.wesl_text_sink.specs.Words.{is_limit, is_refusal}
use Rattle.wesl_text_sink.proofs.LayoutRead.{misread_is_not_meant, read_is_meant}
use Rattle.wesl_text_sink.proofs.SlotWords.{slots_are_tokens}

-- a fault that is no limit is a refusal
refuses : (e : PrintFault) → is_limit e ≡ false → is_refusal (Some e) ≡ true
refuses told.Memory h = let z : ⊥ = cc h in absurd z
refuses told.TooLong h = let z : ⊥ = cc h in absurd z
refuses (told.Unwritable w) h = refl
refuses told.NoWord h = refl
refuses told.NoName h = refl
refuses told.NoNumber h = refl
refuses told.NoRule h = refl
refuses told.NotAsMeant h = refl

-- how a unit with these slots is spelled
spelled_so : (u : UnitOf Text) (ss : List Slot) (b : Bool) → slots u ≡ Some ss → are_read_as_meant (fewest ss) ≡ b → spelling u ≡ (if b then Some (fewest ss) else None)
spelled_so u ss b e h = ap (λ (x : Slots). option_and_then as_meant x) e ∙ ap (λ (z : Bool). let o : Option (List Token) = if z then Some (fewest ss) else None in o) h

of_error : (e f : PrintFault) → (let r : Result (String Global) PrintFault = Err e in r) ≡ Err f → f ≡ e
of_error e f h = cc

no_text : {A : Type 0} (t : String Global) (f : PrintFault) → (let r : Result (String Global) PrintFault = Ok t in r) ≡ Err f → A
no_text t f h = let z : ⊥ = cc h in absurd z

module _ (u : UnitOf Text) (old new : TextSink) (shows : Shows old []) (clear : old.fault ≡ None) (fills : Fills (slots u) old new) where
  -- a fault was noted
  noted : (f : PrintFault) → new.fault ≡ Some f → (is_limit f ≡ true) ⊎ (IsWritable u ≡ false)
  noted f e = by (is_limit f) refl where
    by : (b : Bool) → is_limit f ≡ b → (is_limit f ≡ true) ⊎ (IsWritable u ≡ false)
    by true h = inl h
    by false h = inr (ap (λ (x : Slots). is_some (option_and_then as_meant x)) (fills.refused (ap is_refusal e ∙ refuses f h) clear))

  -- the text was read again
  handed : (r : Result (String Global) PrintFault) → (p : Filled (slots u) [] new) → IsResult p.laid r → IsPrinted u r
  handed (Ok t) p q =
      let meant : are_read_as_meant (fewest p.slots) ≡ true = ap are_read_as_meant (turned p.tokens) ∙ read_is_meant p.laid (string_bytes t) p.shows.laid (IsUtf8-string_bytes t) q in
      let spelled : spelling u ≡ Some (fewest p.slots) = spelled_so u p.slots true p.given meant in
      (ap (λ (o : Option (List Token)). is_some o) spelled, q.tokens ∙ (ap (λ (ts : List Token). let o : Option (List Token) = Some ts in o) p.tokens ∙ turned spelled))
  handed (Err e) p (inl h) = inl h
  handed (Err e) p (inr m) =
      let are : AreTokens (laid_tokens p.laid) = subst AreTokens (turned p.tokens) (slots_are_tokens u p.slots p.given) in
      let meant : are_read_as_meant (fewest p.slots) ≡ false = ap are_read_as_meant (turned p.tokens) ∙ misread_is_not_meant p.laid p.shows.laid are m.1 in
      inr (ap (λ (o : Option (List Token)). is_some o) (spelled_so u p.slots false p.given meant))

  printed : (r : Result (String Global) PrintFault) → Finishes new r → IsPrinted u r
  printed r finish = by new.fault refl r finish where
    by : (o : Option PrintFault) → new.fault ≡ o → (r : Result (String Global) PrintFault) → Finishes new r → IsPrinted u r
    by None e r f = let p : Filled (slots u) [] new = fills.filled e [] shows in handed r p (f.result e p.laid p.shows)
    by (Some x) e (Ok t) f = no_text t x (f.faulty x e)
    by (Some x) e (Err y) f = noted y (e ∙ ap (λ (z : PrintFault). let o : Option PrintFault = Some z in o) (of_error y x (f.faulty x e)))

pub units_are_printed : UnitsArePrinted
units_are_printed u old new r shows clear fills finish = printed u old new shows clear fills r finish
