-- What is told a collector of identifiers and another handler beside it.
use Rattle.std.specs.Prelude.{List, [], ◌++◌}
use Rattle.wesl_scope_occurrences.specs.Events.{Event}
use Rattle.wesl_scope_occurrences.specs.Shown.{Collects, collects_none, collects_more}
use Rattle.wesl_scope_occurrences.specs.declared.beside.Beside.{Beside}

module _ {H : Type 0} (after : List Event → H → H → Type 0) where
  -- both are told the events
  pub record TellsBoth (es : List Event) (old new : Beside H) : Type 0 where
    pub collects : Collects es old.collector new.collector
    pub told : after es old.other new.other

  -- both are told no events where nothing changes, if that holds of the other handler alone
  pub both_none : ((h : H) → after [] h h) → (b : Beside H) → TellsBoth [] b b
  both_none none b = record { collects = collects_none b.collector; told = none b.other }

  -- where both are told some events and then others, both are told all of these in turn, if that holds of the other alone
  pub both_more : ((es fs : List Event) (a b c : H) → after es a b → after fs b c → after (es ++ fs) a c)
      → (es fs : List Event) (a b c : Beside H) → TellsBoth es a b → TellsBoth fs b c → TellsBoth (es ++ fs) a c
  both_more more es fs a b c x y = record { collects = collects_more es fs a.collector b.collector c.collector x.collects y.collects; told = more es fs a.other b.other c.other x.told y.told }
