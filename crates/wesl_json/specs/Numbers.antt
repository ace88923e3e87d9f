-- Whether a sink was told a number.
use Rattle.std.specs.Prelude.{◌≡◌, ◌||◌, Bool, true, false, List, [], ◌∷◌, ◌++◌}
use Rattle.std.proofs.Common.{refl, sym, ap, ◌∙◌}
use Rattle.wesl_json_light.specs.Numbers.{has_number}
use Rattle.wesl_json_print_nodes.specs.Events.{Event, gives}
use Rattle.wesl_json.specs.declared.places.NumberSink.{NumberSink}

-- a number is told by one event
abbrev pub is_number : Event → Bool
is_number (gives d) = has_number d
is_number _ = false

-- a number is told by one of the events
abbrev pub tell_number : List Event → Bool
tell_number [] = false
tell_number (e ∷ es) = is_number e || tell_number es

-- Unless memory was wanting by then: a number was told before or by these events, and memory was not wanting before either.
pub record NotesNumbers (es : List Event) (old new : NumberSink) : Type 0 where
  pub has : new.is_refused ≡ false → new.has ≡ (old.has || tell_number es)
  pub noted : new.is_refused ≡ false → old.is_refused ≡ false

pub or_none : (a : Bool) → a ≡ (a || false)
or_none true = refl
or_none false = refl

or_then : (a b c : Bool) → ((a || b) || c) ≡ (a || (b || c))
or_then true b c = refl
or_then false b c = refl

pub tell_more : (es fs : List Event) → tell_number (es ++ fs) ≡ (tell_number es || tell_number fs)
tell_more [] fs = refl
tell_more (e ∷ es) fs = ap (λ b. is_number e || b) (tell_more es fs) ∙ sym (or_then (is_number e) (tell_number es) (tell_number fs))

pub notes_none : (s : NumberSink) → NotesNumbers [] s s
notes_none s = record { has = λ kept. or_none s.has; noted = λ kept. kept }

pub notes_more : (es fs : List Event) (a b c : NumberSink) → NotesNumbers es a b → NotesNumbers fs b c → NotesNumbers (es ++ fs) a c
notes_more es fs a b c h k = record {
  has = λ kept. k.has kept ∙ ap (λ x. x || tell_number fs) (h.has (k.noted kept)) ∙ or_then a.has (tell_number es) (tell_number fs) ∙ ap (λ x. a.has || x) (sym (tell_more es fs));
  noted = λ kept. h.noted (k.noted kept);
}
