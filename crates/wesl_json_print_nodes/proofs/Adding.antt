-- What a sink is told by steps one after another.
use Rattle.std.proofs.Common.{◌≡◌, List, [], ◌∷◌, ◌++◌, append-nil, sym, ap, subst}
use Rattle.wesl_json_print_nodes.specs.Events.{Event, events, key}
use Rattle.serde_json.specs.Data.{Data, string, Members}
use Rattle.wesl_tree_names.specs.Path.{Text}
use Rattle.wesl_json_print_nodes.specs.Printing.{PrintsEvents, PrintsMember, PrintsMembers, inside}
use Rattle.wesl_json_print_nodes.specs.declared.printer.Printer.{Printer}

-- what any sink keeps to
pub record Lawful {S : Type 0} (after : List Event → S → S → Type 0) : Type 0 where
  pub none : (s : S) → after [] s s
  pub more : (ts us : List Event) (a b c : S) → after ts a b → after us b c → after (ts ++ us) a c

pub lawful : {S : Type 0} {after : List Event → S → S → Type 0} → ((s : S) → after [] s s) → ((ts us : List Event) (a b c : S) → after ts a b → after us b c → after (ts ++ us) a c) → Lawful after
lawful none more = record { none = none; more = more }

module _ {S : Type 0} {after : List Event → S → S → Type 0} where
  -- one step of the sink
  pub step : {a b : Printer S} {ts : List Event} → after ts a.sink b.sink → PrintsEvents after a b ts
  step h = record { told = h }

  -- the same tokens, told otherwise
  pub told : {a b : Printer S} {ts us : List Event} → ts ≡ us → PrintsEvents after a b ts → PrintsEvents after a b us
  told {a} {b} same h = record { told = subst (λ r. after r a.sink b.sink) same h.told }

  -- the same value at a key
  pub value_is : {a b : Printer S} {k : Text} {d e : Data} → d ≡ e → PrintsMember after a b k d → PrintsMember after a b k e
  value_is {a} {b} {k} is h = told (ap (λ v. key k ∷ (events v ++ [])) is) h

  -- the same text at a key
  pub text_is : {a b : Printer S} {k t u : Text} → t ≡ u → PrintsMember after a b k (string t) → PrintsMember after a b k (string u)
  text_is {a} {b} {k} is h = told (ap (λ v. key k ∷ (events (string v) ++ [])) is) h

  -- the same members, told otherwise
  pub members_are : {a b : Printer S} {ms ns : Members} → ns ≡ ms → PrintsMembers after a b ms → PrintsMembers after a b ns
  members_are is h = told (ap inside (sym is)) h

  module _ (l : Lawful after) where
    -- two steps
    pub then : {a b c : Printer S} {ts us : List Event} → PrintsEvents after a b ts → PrintsEvents after b c us → PrintsEvents after a c (ts ++ us)
    then {a} {b} {c} {ts} {us} h k = record { told = l.more ts us a.sink b.sink c.sink h.told k.told }

    -- no step
    pub none : (a : Printer S) → PrintsEvents after a a []
    none a = record { told = l.none a.sink }

    -- a key, and the tokens of the value at it
    pub keyed : {a b c : Printer S} {k : Text} {ts : List Event} → PrintsEvents after a b (key k ∷ []) → PrintsEvents after b c ts → PrintsEvents after a c (key k ∷ (ts ++ []))
    keyed {a} {b} {c} {k} {ts} h i =
        let both = then h i in
        told (ap (λ us. key k ∷ us) (sym (append-nil ts))) both
