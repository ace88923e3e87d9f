-- The events of a tree, told one after the other.
use Rattle.std.proofs.Common.{◌≡◌, ℕ, zero, suc, ◌+◌, Bool, true, false, List, [], ◌∷◌, ◌++◌, length, refl, sym, ap, ◌∙◌, arith, append_assoc, append-nil, length-append}
use Rattle.std.specs.Prelude.{Option}
use Rattle.wesl_tree_names.specs.Path.{Path}
use Rattle.wesl_tree_syntax.specs.Tree.{Role, Label, Tree, Forest, before, end, tree, kind, at, ident, binder, reference, word, text, texts, truth, unary, binary, assignment, space, access, path}
use Rattle.wesl_scope_occurrences.specs.Occurrences.{Standing, Declares, globally, a_parameter, a_value, Node, here_in, standing, referring, declared, opened_by, blocks_in}
use Rattle.wesl_scope_occurrences.specs.Walk.{Here}
use Rattle.wesl_scope_occurrences.specs.Outer.{outers_of, outers_from, outers_in}
use Rattle.wesl_scope_occurrences.specs.Events.{Event, begins, meets, opens, closes, Level, level_of, plain_level, next_part, after_level, is_second, is_some, beginning, within, ending, events_from, events_in}
use Rattle.wesl_scope_occurrences.proofs.Outers.{few_length, opened_few, outers_many}

-- what is told so far, and of each block the one round it
pub record Told : Type 0 where
  pub told : List Event
  pub outer : List ℕ

-- a name whose declaration has not ended
pub record Pending : Type 0 where
  pub here : Here
  pub role : Standing
  pub name : ℕ

abbrev pub say : List Event → Told → Told
say es s = record s { told = s.told ++ es }

abbrev pub say_if : Bool → Event → Told → Told
say_if true e s = say (e ∷ []) s
say_if false e s = s

-- a node opens its blocks
abbrev pub numbering : ℕ → ℕ → Told → Told
numbering zero b s = s
numbering (suc zero) b s = record s { outer = s.outer ++ b ∷ [] }
numbering (suc (suc n)) b s = record s { outer = (s.outer ++ b ∷ []) ++ length s.outer ∷ [] }

abbrev pub closing : List Pending → Told → Told
closing [] s = s
closing (p ∷ ps) s = closing ps (say (ending p.here p.role p.name) s)

abbrev pub pended_by : Label → Node ℕ → List Pending → List Pending
pended_by (ident binder x) node old = record { here = here_in node; role = standing binder node 0; name = x } ∷ old
pended_by _ node old = old

abbrev pub pended : Declares → Label → Node ℕ → List Pending → List Pending
pended globally l node old = old
pended a_parameter l node old = old
pended a_value l node old = pended_by l node old

abbrev pub or_met : Label → Node ℕ → Told → Told → Told
or_met (ident r x) node s inner = say (meets (here_in node) (standing r node 0) x ∷ []) s
or_met _ node s inner = inner

abbrev pub tell : Level → List Pending → Told → Forest → Told
tell level ps s end = closing ps s
tell level ps s (tree l children others) =
    tell (after_level level) (pended level.node.declares l level.node ps)
    (say_if (is_second (next_part level.parts)) closes
    (or_met l level.node (say_if (is_second (next_part level.parts)) opens (say_if level.is_global begins s))
    (say_if (is_some (opened_by l)) closes
    (tell (level_of l children (length s.outer) (here_in level.node) (next_part level.parts)) []
    (say_if (is_some (opened_by l)) opens (numbering (opened_by l) (here_in level.node).block (say_if (is_second (next_part level.parts)) opens (say_if level.is_global begins s))))
    children))))
    others

-- one tree, in these surroundings
abbrev pub told_by : Here → Told → Tree → Told
told_by here s t = tell (plain_level here []) [] s (before t end)

-- ---- they are the events of the definition

abbrev pub endings : List Pending → List Event
endings [] = []
endings (p ∷ ps) = ending p.here p.role p.name ++ endings ps

closing_told : (ps : List Pending) (s : Told) → (closing ps s).told ≡ s.told ++ endings ps
closing_told [] s = sym (append-nil s.told)
closing_told (p ∷ ps) s = closing_told ps (say (ending p.here p.role p.name) s) ∙ append_assoc s.told (ending p.here p.role p.name) (endings ps)

closing_outer : (ps : List Pending) (s : Told) → (closing ps s).outer ≡ s.outer
closing_outer [] s = refl
closing_outer (p ∷ ps) s = closing_outer ps (say (ending p.here p.role p.name) s)

no_ending : (here : Here) (w : Bool) (by : Option Path) (x : ℕ) → ending here (referring w by) x ≡ []
no_ending here true by x = refl
no_ending here false by x = refl

pended_endings : (d : Declares) (r : Role) (x : ℕ) (node : Node ℕ) (ps : List Pending) → node.declares ≡ d → endings (pended d (ident r x) node ps) ≡ ending (here_in node) (standing r node 0) x ++ endings ps
pended_endings globally binder x node ps e = ap (λ d. ending (here_in node) (declared d (here_in node) 0) x ++ endings ps) (sym e)
pended_endings a_parameter binder x node ps e = ap (λ d. ending (here_in node) (declared d (here_in node) 0) x ++ endings ps) (sym e)
pended_endings a_value binder x node ps e = refl
pended_endings globally reference x node ps e = ap (λ es. es ++ endings ps) (sym (no_ending (here_in node) (here_in node).words node.path x))
pended_endings a_parameter reference x node ps e = ap (λ es. es ++ endings ps) (sym (no_ending (here_in node) (here_in node).words node.path x))
pended_endings a_value reference x node ps e = ap (λ es. es ++ endings ps) (sym (no_ending (here_in node) (here_in node).words node.path x))
pended_endings globally word x node ps e = refl
pended_endings a_parameter word x node ps e = refl
pended_endings a_value word x node ps e = refl

begun_told : (g : Bool) (s : Told) → (say_if g begins s).told ≡ s.told ++ beginning g
begun_told true s = refl
begun_told false s = sym (append-nil s.told)

said_outer : (b : Bool) (e : Event) (s : Told) → (say_if b e s).outer ≡ s.outer
said_outer true e s = refl
said_outer false e s = refl

bracketed : (b : Bool) (s t : Told) (es : List Event) → t.told ≡ (say_if b opens s).told ++ es → (say_if b closes t).told ≡ s.told ++ within b es
bracketed true s t es e = ap (λ xs. xs ++ closes ∷ []) e ∙ (append_assoc (s.told ++ opens ∷ []) es (closes ∷ []) ∙ append_assoc s.told (opens ∷ []) (es ++ closes ∷ []))
bracketed false s t es e = e

numbering_told : (n b : ℕ) (s : Told) → (numbering n b s).told ≡ s.told
numbering_told zero b s = refl
numbering_told (suc zero) b s = refl
numbering_told (suc (suc n)) b s = refl

numbering_outer : (n b : ℕ) (s : Told) → (numbering n b s).outer ≡ s.outer ++ outers_of n (length s.outer) b
numbering_outer zero b s = sym (append-nil s.outer)
numbering_outer (suc zero) b s = refl
numbering_outer (suc (suc n)) b s = append_assoc s.outer (b ∷ []) (length s.outer ∷ [])

regrouped : {X : Type 0} (a b c d e : List X) → ((a ++ b) ++ c) ++ (d ++ e) ≡ a ++ ((b ++ (c ++ d)) ++ e)
regrouped a b c d e =
    append_assoc (a ++ b) c (d ++ e)
    ∙ (append_assoc a b (c ++ (d ++ e))
    ∙ ap (λ xs. a ++ xs) (ap (λ xs. b ++ xs) (sym (append_assoc c d e)) ∙ sym (append_assoc b (c ++ d) e)))

pub record Tells (level : Level) (ps : List Pending) (s : Told) (f : Forest) : Type 0 where
  pub told : (tell level ps s f).told ≡ s.told ++ (events_from level (length s.outer) f ++ endings ps)
  pub outer : (tell level ps s f).outer ≡ s.outer ++ outers_from level.node (length s.outer) f

abbrev TellsAll : Forest → Type 0
TellsAll f = (level : Level) (ps : List Pending) (s : Told) → Tells level ps s f

-- a tree that is no identifier, and those after it
module _ (l : Label) (children others : Forest) (level : Level) (ps : List Pending) (s : Told) (inner : TellsAll children) (after : TellsAll others) where
  abbrev q : ℕ
  q = length s.outer

  abbrev n : ℕ
  n = opened_by l

  abbrev here : Here
  here = here_in level.node

  abbrev second : Bool
  second = is_second (next_part level.parts)

  abbrev opener : Bool
  opener = is_some (opened_by l)

  abbrev lower : Level
  lower = level_of l children q here (next_part level.parts)

  abbrev s1 : Told
  s1 = say_if level.is_global begins s

  abbrev s2 : Told
  s2 = say_if second opens s1

  abbrev s3 : Told
  s3 = numbering n here.block s2

  abbrev s4 : Told
  s4 = say_if opener opens s3

  abbrev s5 : Told
  s5 = tell lower [] s4 children

  abbrev s6 : Told
  s6 = say_if opener closes s5

  abbrev s7 : Told
  s7 = say_if second closes s6

  abbrev own : List ℕ
  own = outers_of n q here.block

  outer2 : s2.outer ≡ s.outer
  outer2 = said_outer second opens s1 ∙ said_outer level.is_global begins s

  outer4 : s4.outer ≡ s.outer ++ own
  outer4 = said_outer opener opens s3 ∙ (numbering_outer n here.block s2 ∙ ap (λ o. o ++ outers_of n (length o) here.block) outer2)

  length4 : length s4.outer ≡ q + n
  length4 = omega (arith, ap length outer4, length-append s.outer own, few_length n q here.block (opened_few l))

  abbrev below : List ℕ
  below = outers_from lower.node (q + n) children

  below_many : length below ≡ blocks_in children
  below_many = ap (λ k. length (outers_from lower.node k children)) (sym length4) ∙ outers_many children lower.node s4.outer

  outer7 : s7.outer ≡ s.outer ++ (own ++ below)
  outer7 =
      said_outer second closes s6
      ∙ (said_outer opener closes s5
      ∙ ((inner lower [] s4).outer
      ∙ (ap (λ k. s4.outer ++ outers_from lower.node k children) length4 ∙ (ap (λ o. o ++ below) outer4 ∙ append_assoc s.outer own below))))

  length7 : length s7.outer ≡ q + n + blocks_in children
  length7 = omega (arith, ap length outer7, length-append s.outer (own ++ below), length-append own below, few_length n q here.block (opened_few l), below_many)

  abbrev es : List Event
  es = events_from lower (q + n) children

  told5 : s5.told ≡ s4.told ++ es
  told5 = (inner lower [] s4).told ∙ ap (λ xs. s4.told ++ xs) (append-nil (events_from lower (length s4.outer) children) ∙ ap (λ k. events_from lower k children) length4)

  told6 : s6.told ≡ s2.told ++ within opener es
  told6 = bracketed opener s3 s5 es told5 ∙ ap (λ xs. xs ++ within opener es) (numbering_told n here.block s2)

  abbrev ws : List Event
  ws = within second (within opener es)

  told7 : s7.told ≡ (s.told ++ beginning level.is_global) ++ ws
  told7 = bracketed second s1 s6 (within opener es) told6 ∙ ap (λ xs. xs ++ ws) (begun_told level.is_global s)

  abbrev next : Level
  next = after_level level

  abbrev later : List Event
  later = events_from next (q + n + blocks_in children) others

  told8 : (tell next ps s7 others).told ≡ s.told ++ ((beginning level.is_global ++ (ws ++ later)) ++ endings ps)
  told8 =
      (after next ps s7).told
      ∙ (ap (λ k. s7.told ++ (events_from next k others ++ endings ps)) length7
      ∙ (ap (λ xs. xs ++ (later ++ endings ps)) told7 ∙ regrouped s.told (beginning level.is_global) ws later (endings ps)))

  abbrev rest : List ℕ
  rest = outers_from next.node (q + n + blocks_in children) others

  outer8 : (tell next ps s7 others).outer ≡ s.outer ++ (own ++ (below ++ rest))
  outer8 =
      (after next ps s7).outer
      ∙ (ap (λ k. s7.outer ++ outers_from next.node k others) length7
      ∙ (ap (λ o. o ++ rest) outer7 ∙ (append_assoc s.outer (own ++ below) rest ∙ ap (λ o. s.outer ++ o) (append_assoc own below rest))))

none_pended : (d : Declares) (l : Label) (node : Node ℕ) (ps : List Pending) → pended_by l node ps ≡ ps → pended d l node ps ≡ ps
none_pended globally l node ps e = refl
none_pended a_parameter l node ps e = refl
none_pended a_value l node ps e = e

each : (l : Label) (children others : Forest) (level : Level) (ps : List Pending) (s : Told) (inner : TellsAll children) (after : TellsAll others) (f : Forest)
    → tell level ps s f ≡ tell (after_level level) (pended level.node.declares l level.node ps) (s7 l children others level ps s inner after) others
    → events_from level (length s.outer) f ≡ beginning level.is_global ++ (ws l children others level ps s inner after ++ later l children others level ps s inner after)
    → outers_from level.node (length s.outer) f ≡ own l children others level ps s inner after ++ (below l children others level ps s inner after ++ rest l children others level ps s inner after)
    → pended_by l level.node ps ≡ ps → Tells level ps s f
each l children others level ps s inner after f te ev ou np =
    let t7 : Told = s7 l children others level ps s inner after in
    let e : tell level ps s f ≡ tell (after_level level) ps t7 others =
    te ∙ ap (λ qs. tell (after_level level) qs t7 others) (none_pended level.node.declares l level.node ps np) in
    record {
      told = ap (λ t. t.told) e ∙ (told8 l children others level ps s inner after ∙ ap (λ es. s.told ++ (es ++ endings ps)) (sym ev));
      outer = ap (λ t. t.outer) e ∙ (outer8 l children others level ps s inner after ∙ ap (λ o. s.outer ++ o) (sym ou));
    }

tells : (f : Forest) → TellsAll f
tells end level ps s = record { told = closing_told ps s; outer = closing_outer ps s ∙ sym (append-nil s.outer) }
tells (tree (ident r x) children others) level ps s =
    let here : Here = here_in level.node in
    let second : Bool = is_second (next_part level.parts) in
    let m : Event = meets here (standing r level.node 0) x in
    let s1 : Told = say_if level.is_global begins s in
    let s3 : Told = say (m ∷ []) (say_if second opens s1) in
    let s4 : Told = say_if second closes s3 in
    let ps' : List Pending = pended level.node.declares (ident r x) level.node ps in
    let next : Level = after_level level in
    let ws : List Event = within second (m ∷ []) in
    let ends_here : List Event = ending here (standing r level.node 0) x in
    let outer4 : s4.outer ≡ s.outer = said_outer second closes s3 ∙ (said_outer second opens s1 ∙ said_outer level.is_global begins s) in
    let told4 : s4.told ≡ (s.told ++ beginning level.is_global) ++ ws = bracketed second s1 s3 (m ∷ []) refl ∙ ap (λ xs. xs ++ ws) (begun_told level.is_global s) in
    let later : List Event = events_from next (length s.outer) others in
    let h = tells others next ps' s4 in
    record {
      told =
          h.told
          ∙ (ap (λ k. s4.told ++ (events_from next k others ++ endings ps')) (ap length outer4)
          ∙ (ap (λ xs. s4.told ++ (later ++ xs)) (pended_endings level.node.declares r x level.node ps refl)
          ∙ (ap (λ xs. s4.told ++ xs) (sym (append_assoc later ends_here (endings ps)))
          ∙ (ap (λ xs. xs ++ ((later ++ ends_here) ++ endings ps)) told4 ∙ regrouped s.told (beginning level.is_global) ws (later ++ ends_here) (endings ps)))));
      outer = h.outer ∙ ap (λ o. o ++ outers_from next.node (length o) others) outer4;
    }
tells (tree (kind k) children others) level ps s = each (kind k) children others level ps s (tells children) (tells others) (tree (kind k) children others) refl refl refl refl
tells (tree (at k i j) children others) level ps s = each (at k i j) children others level ps s (tells children) (tells others) (tree (at k i j) children others) refl refl refl refl
tells (tree (text v) children others) level ps s = each (text v) children others level ps s (tells children) (tells others) (tree (text v) children others) refl refl refl refl
tells (tree (texts v) children others) level ps s = each (texts v) children others level ps s (tells children) (tells others) (tree (texts v) children others) refl refl refl refl
tells (tree (truth v) children others) level ps s = each (truth v) children others level ps s (tells children) (tells others) (tree (truth v) children others) refl refl refl refl
tells (tree (unary v) children others) level ps s = each (unary v) children others level ps s (tells children) (tells others) (tree (unary v) children others) refl refl refl refl
tells (tree (binary v) children others) level ps s = each (binary v) children others level ps s (tells children) (tells others) (tree (binary v) children others) refl refl refl refl
tells (tree (assignment v) children others) level ps s = each (assignment v) children others level ps s (tells children) (tells others) (tree (assignment v) children others) refl refl refl refl
tells (tree (space v) children others) level ps s = each (space v) children others level ps s (tells children) (tells others) (tree (space v) children others) refl refl refl refl
tells (tree (access v) children others) level ps s = each (access v) children others level ps s (tells children) (tells others) (tree (access v) children others) refl refl refl refl
tells (tree (path v) children others) level ps s = each (path v) children others level ps s (tells children) (tells others) (tree (path v) children others) refl refl refl refl

-- those of one tree
pub told_tree : (here : Here) (s : Told) (t : Tree) → (told_by here s t).told ≡ s.told ++ events_in here (length s.outer) t
told_tree here s t = (tells (before t end) (plain_level here []) [] s).told ∙ ap (λ es. s.told ++ es) (append-nil (events_in here (length s.outer) t))

pub outer_tree : (here : Here) (s : Told) (t : Tree) → (told_by here s t).outer ≡ s.outer ++ outers_in here (length s.outer) t
outer_tree here s t = (tells (before t end) (plain_level here []) [] s).outer

-- of any level, if no name is pending
pub told_forest : (level : Level) (s : Told) (f : Forest) → (tell level [] s f).told ≡ s.told ++ events_from level (length s.outer) f
told_forest level s f = (tells f level [] s).told ∙ ap (λ es. s.told ++ es) (append-nil (events_from level (length s.outer) f))

pub outer_forest : (level : Level) (s : Told) (f : Forest) → (tell level [] s f).outer ≡ s.outer ++ outers_from level.node (length s.outer) f
outer_forest level s f = (tells f level [] s).outer
