-- The pieces of a text, token by token.
use Rattle.std.proofs.Common.{◌≡◌, ◌⊎◌, ℕ, suc, Bool, true, false, not, ◌&&◌, ◌||◌, ◌==◌, if◌then◌else◌, List, [], ◌∷◌, ◌++◌, map, Option, Some, None, is_some, refl, sym as turned, inl, inr, ap, ◌∙◌, subst, eqb-true, append_assoc, append-nil, codes, bytes_eq}
use Rattle.std.proofs.lemmas.Slice.Eq.{bytes_eq-Decides}
use Rattle.wesl_tree_names.specs.Path.{Text}
use Rattle.wesl_text_tokens.specs.declared.symbol.Symbol.{Symbol}
use Rattle.wesl_text_tokens.specs.Characters.{is_one_of, is_doubled}
use Rattle.wesl_text_tokens.specs.Symbols.{symbol_of, symbol_text}
use Rattle.wesl_text_tokens.specs.Pieces.{What, a_name, a_number, a_sign, Bit}
use Rattle.wesl_text_tokens.specs.Brackets.{Known, nothing_known, brackets, sign_behind, known_behind, known_from}
use Rattle.wesl_text_tokens.specs.Tokens.{Token, name, number, symbol, open_list, close_list, Made, Held, let_go, joins, more, Joined, behind, made_from}
use Rattle.wesl_text_form.specs.Says.{sign_bit, sign_bits, token_bits}
use Rattle.wesl_text_tokens.proofs.SymbolTexts.{each, symbol_of_text, text_of_symbol}
use Rattle.wesl_text_reading.proofs.Filled.{no_true}
use Rattle.wesl_text_writable.proofs.Signs.{is_sign_text, lone_text, meet, BitsFit}
use Rattle.wesl_text_writable.proofs.Fresh.{Before, before_step, opens_by, closes_by}
use Rattle.std.proofs.lemmas.Bool.{and_parts}

-- the first of pieces stands right behind another, or not
abbrev pub glue : Bool → List Bit → List Bit
glue g [] = []
glue g (b ∷ bs) = record { what = b.what; is_glued = g } ∷ bs

-- the number of the piece behind pieces, of which the first has a number
abbrev pub number_behind : ℕ → List Bit → ℕ
number_behind i [] = i
number_behind i (b ∷ bs) = number_behind (suc i) bs

-- tokens without those of how many pieces they are
abbrev pub tokens_made : List Made → List Token
tokens_made ms = map (λ m. m.token) ms

-- ---- symbols

-- whether the text of a symbol is such that its pieces are told: of two signs and another the first two are not doubled, nor the last
abbrev pub is_plain_text : Text → Bool
is_plain_text [] = false
is_plain_text (c ∷ []) = true
is_plain_text (c ∷ d ∷ []) = true
is_plain_text (c ∷ d ∷ e ∷ []) = not ((c == d) && is_doubled c) && not ((d == e) && is_doubled d)
is_plain_text (c ∷ d ∷ e ∷ f ∷ t) = false

pub plain_symbol : (s : Symbol) → is_plain_text (symbol_text s) ≡ true
plain_symbol s = each (λ z. is_plain_text (symbol_text z)) refl s

-- what holds of each of some characters holds of one of them
abbrev all_hold : (ℕ → Bool) → List ℕ → Bool
all_hold p [] = true
all_hold p (d ∷ ds) = p d && all_hold p ds

one_holds : (p : ℕ → Bool) (ds : List ℕ) (c : ℕ) → all_hold p ds ≡ true → is_one_of ds c ≡ true → p c ≡ true
one_holds p [] c a h = absurd (no_true h)
one_holds p (d ∷ ds) c a h = let x : (p d ≡ true) × (all_hold p ds ≡ true) = and_parts (p d) (all_hold p ds) a in by x (c == d) refl h (λ g. one_holds p ds c x.1 g) where
  by : (p d ≡ true) × (all_hold p ds ≡ true) → (b : Bool) → (c == d) ≡ b → (b || is_one_of ds c) ≡ true → (is_one_of ds c ≡ true → p c ≡ true) → p c ≡ true
  by x true e g k = ap p (eqb-true c d e) ∙ x.0
  by x false e g k = k g

-- the symbol that a text is, where it is one
pub there : (t : Text) → is_some (symbol_of t) ≡ true → (s : Symbol) × (symbol_text s ≡ t)
there t h = by (symbol_of t) refl h where
  by : (o : Option Symbol) → symbol_of t ≡ o → is_some o ≡ true → (s : Symbol) × (symbol_text s ≡ t)
  by None e g = absurd (no_true g)
  by (Some s) e g = (s, text_of_symbol t s e)

-- one sign, or two that are doubled, are a symbol of one piece
single : (t : Text) → is_sign_text t ≡ true → ((s : Symbol) × (symbol_text s ≡ t)) × (sign_bits t ≡ sign_bit false t ∷ [])
single [] h = absurd (no_true h)
single (c ∷ []) h = (there (c ∷ []) (one_holds (λ z. is_some (symbol_of (z ∷ []))) (codes "()[]{}<>@,.;:=+-*/%&|^!~") c refl h), refl)
single (c ∷ d ∷ []) h =
    let x : ((c == d) ≡ true) × (is_doubled c ≡ true) = and_parts (c == d) (is_doubled c) h in (
      there (c ∷ d ∷ []) (ap (λ z. is_some (symbol_of (c ∷ z ∷ []))) (turned (eqb-true c d x.0)) ∙ one_holds (λ z. is_some (symbol_of (z ∷ z ∷ []))) (codes "&|+-:") c refl x.1),
      ap (λ b. if b then sign_bit false (c ∷ d ∷ []) ∷ [] else sign_bit false (c ∷ []) ∷ sign_bit true (d ∷ []) ∷ []) h,
    )
single (c ∷ d ∷ e ∷ t) h = absurd (no_true h)

no_both : (b : Bool) → b ≡ true → not b ≡ true → ⊥
no_both true e h = no_true h
no_both false e h = no_true e

-- a symbol that goes on with a piece has the pieces of the first, and that one
joined_bits : (t u : Text) (s : Symbol) → symbol_text s ≡ t ++ u → (w : Symbol) → symbol_text w ≡ t → is_sign_text u ≡ true → meet (lone_text t) (lone_text u) ≡ false → sign_bits (t ++ u) ≡ sign_bits t ++ sign_bit true u ∷ []
joined_bits [] u s e w k h m = absurd (no_true (ap is_plain_text (turned k) ∙ plain_symbol w))
joined_bits t [] s e w k h m = absurd (no_true h)
joined_bits (c ∷ []) (d ∷ []) s e w k h m = ap (λ b. if b then sign_bit false (c ∷ d ∷ []) ∷ [] else sign_bit false (c ∷ []) ∷ sign_bit true (d ∷ []) ∷ []) m
joined_bits (c ∷ []) (d ∷ f ∷ []) s e w k h m = absurd (no_both ((d == f) && is_doubled d) h (and_parts (not ((c == d) && is_doubled c)) (not ((d == f) && is_doubled d)) (ap is_plain_text (turned e) ∙ plain_symbol s)).1)
joined_bits (c ∷ d ∷ []) (f ∷ []) s e w k h m =
    ap (λ b. (if b then sign_bit false (c ∷ d ∷ []) ∷ [] else sign_bit false (c ∷ []) ∷ sign_bit true (d ∷ []) ∷ []) ++ sign_bit true (f ∷ []) ∷ [])
    (turned (not_true ((c == d) && is_doubled c) (and_parts (not ((c == d) && is_doubled c)) (not ((d == f) && is_doubled d)) (ap is_plain_text (turned e) ∙ plain_symbol s)).0)) where
      not_true : (b : Bool) → not b ≡ true → b ≡ false
      not_true true h = absurd (no_true h)
      not_true false h = refl
joined_bits (c ∷ d ∷ []) (f ∷ g ∷ []) s e w k h m = absurd (no_true (ap is_plain_text (turned e) ∙ plain_symbol s))
joined_bits (c ∷ d ∷ f ∷ t) (g ∷ u) s e w k h m = by t e where
  by : (t : Text) → symbol_text s ≡ (c ∷ d ∷ f ∷ t) ++ (g ∷ u) → sign_bits ((c ∷ d ∷ f ∷ t) ++ (g ∷ u)) ≡ sign_bits (c ∷ d ∷ f ∷ t) ++ sign_bit true (g ∷ u) ∷ []
  by [] e = absurd (no_true (ap is_plain_text (turned e) ∙ plain_symbol s))
  by (x ∷ t) e = absurd (no_true (ap is_plain_text (turned e) ∙ plain_symbol s))
joined_bits (c ∷ t) (d ∷ f ∷ g ∷ u) s e w k h m = absurd (no_true h)

-- there is a piece of each symbol
abbrev pub is_there : List Bit → Bool
is_there [] = false
is_there (b ∷ bs) = true

pub bits_there : (t : Text) → is_plain_text t ≡ true → is_there (sign_bits t) ≡ true
bits_there [] h = absurd (no_true h)
bits_there (c ∷ []) h = refl
bits_there (c ∷ d ∷ []) h = by ((c == d) && is_doubled c) where
  by : (b : Bool) → is_there (if b then sign_bit false (c ∷ d ∷ []) ∷ [] else sign_bit false (c ∷ []) ∷ sign_bit true (d ∷ []) ∷ []) ≡ true
  by true = refl
  by false = refl
bits_there (c ∷ d ∷ e ∷ t) h = refl

glue_joined : (g : Bool) (xs : List Bit) (y : Bit) (bs : List Bit) → is_there xs ≡ true → glue g (xs ++ y ∷ []) ++ bs ≡ glue g xs ++ y ∷ bs
glue_joined g [] y bs h = absurd (no_true h)
glue_joined g (x ∷ xs) y bs h = ap (λ z. record { what = x.what; is_glued = g } ∷ z) (append_assoc xs (y ∷ []) bs)

behind_joined : (xs : List Bit) (y : Bit) (i : ℕ) → number_behind i (xs ++ y ∷ []) ≡ suc (number_behind i xs)
behind_joined [] y i = refl
behind_joined (x ∷ xs) y i = behind_joined xs y (suc i)

-- two texts together are no sign alone
lone_joined : (t u : Text) → is_plain_text t ≡ true → is_sign_text u ≡ true → lone_text (t ++ u) ≡ None
lone_joined [] u h g = absurd (no_true h)
lone_joined t [] h g = absurd (no_true g)
lone_joined (c ∷ []) (d ∷ u) h g = refl
lone_joined (c ∷ d ∷ t) u h g = refl

-- ---- the pieces of tokens

module _ (final : Known) where
  -- pieces of which none is a bracket of a list
  abbrev pub NoBrackets : ℕ → List Bit → Type 0
  NoBrackets i [] = Unit {0}
  NoBrackets i (b ∷ bs) = (is_one_of final.opened i ≡ false) × (is_one_of final.closed i ≡ false) × NoBrackets (suc i) bs

  -- a token whose first piece has a number, by what is known of brackets
  abbrev pub IsBracketed : ℕ → Token → Type 0
  IsBracketed i (name t) = Unit {0}
  IsBracketed i (number t) = Unit {0}
  IsBracketed i (symbol s) = NoBrackets i (sign_bits (symbol_text s))
  IsBracketed i open_list = is_one_of final.opened i ≡ true
  IsBracketed i close_list = (is_one_of final.opened i ≡ false) × (is_one_of final.closed i ≡ true)

  -- pieces are those of tokens, one after the other
  abbrev pub Grouped : ℕ → List Token → List Bit → Type 0
  Grouped i [] bs = bs ≡ []
  Grouped i (t ∷ ts) bs = (g : Bool) × (rest : List Bit) × (bs ≡ glue g (token_bits t) ++ rest) × IsBracketed i t × Grouped (number_behind i (token_bits t)) ts rest

  -- a symbol that is held: its pieces, of which the first has a number, stand before the one with another number
  record IsHeld (p : Option ℕ) (i : ℕ) (h : Held) (first : ℕ) : Type 0 where
    pub sign : Symbol
    pub spelled : symbol_text sign ≡ h.text
    pub last : (lone_text h.text ≡ None) ⊎ (lone_text h.text ≡ p)
    pub bare : NoBrackets first (sign_bits h.text)
    pub behind : number_behind first (sign_bits h.text) ≡ i

  -- what is held is let go
  released : (h : Held) (s : Symbol) → symbol_text s ≡ h.text → (ms : List Made) → tokens_made (let_go (Some h) ++ ms) ≡ symbol s ∷ tokens_made ms
  released h s e ms = ap (λ o. tokens_made (elim o as (λ _. List Made) [ None ↦ [] | Some s ↦ record { token = symbol s; count = h.count } ∷ [] ] ++ ms)) (ap symbol_of (turned e) ∙ symbol_of_text s)

  released_more : (h : Held) (s : Symbol) → symbol_text s ≡ h.text → (ms ns : List Made) → tokens_made ((let_go (Some h) ++ ms) ++ ns) ≡ symbol s ∷ tokens_made (ms ++ ns)
  released_more h s e ms ns = ap tokens_made (append_assoc (let_go (Some h)) ms ns) ∙ released h s e (ms ++ ns)

  -- tokens behind it
  held_then : (p : Option ℕ) (i : ℕ) (h : Held) (first : ℕ) (x : IsHeld p i h first) (g : Bool) (ts : List Token) (bs : List Bit) → Grouped i ts bs → Grouped first (symbol x.sign ∷ ts) (glue g (sign_bits h.text) ++ bs)
  held_then p i h first x g ts bs k = (
    g,
    bs,
    ap (λ t. glue g (sign_bits t) ++ bs) (turned x.spelled),
    subst (λ t. NoBrackets first (sign_bits t)) (turned x.spelled) x.bare,
    subst (λ t. Grouped (number_behind first (sign_bits t)) ts bs) (turned x.spelled) (subst (λ z. Grouped z ts bs) (turned x.behind) k),
  )

  -- the tokens that a piece ends, and those behind it
  abbrev rest_made : ℕ → Joined → List Bit → List Made
  rest_made i j bs = j.done ++ made_from (suc i) final j.held bs

  abbrev NoneGrouped : List Bit → Type 0
  NoneGrouped bs = (i : ℕ) (p : Option ℕ) (k : Known) → BitsFit p bs → Before i k → known_from i k bs ≡ final → Grouped i (tokens_made (made_from i final None bs)) bs

  abbrev HeldGrouped : List Bit → Type 0
  HeldGrouped bs = (i : ℕ) (p : Option ℕ) (k : Known) (h : Held) (first : ℕ) (g : Bool) → BitsFit p bs → Before i k → known_from i k bs ≡ final → IsHeld p i h first → Grouped first (tokens_made (made_from i final (Some h) bs)) (glue g (sign_bits h.text) ++ bs)

  is_text : (t u : Text) → bytes_eq t u ≡ true → t ≡ u
  is_text t u e = (bytes_eq-Decides t u).0 e

  module _ (bs : List Bit) (none : NoneGrouped bs) (held : HeldGrouped bs) (g : Bool) (i : ℕ) (p : Option ℕ) (k : Known) (before : Before i k) where
    abbrev bit : What → Bit
    bit w = record { what = w; is_glued = g }

    abbrev now : What → Known
    now w = known_behind i w (sign_behind bs) k

    -- a sign that begins one
    begun_sign : (t : Text) → BitsFit p (bit (a_sign t) ∷ bs) → known_from (suc i) (now (a_sign t)) bs ≡ final → is_one_of final.opened i ≡ false → is_one_of final.closed i ≡ false → Grouped i (tokens_made (made_from (suc i) final (more None t) bs)) (bit (a_sign t) ∷ bs)
    begun_sign t f e q r =
        let x : ((s : Symbol) × (symbol_text s ≡ t)) × (sign_bits t ≡ sign_bit false t ∷ []) = single t f.0 in
        let h : Held = record { text = t; count = 1 } in
        let is_held : IsHeld (lone_text t) (suc i) h i = record { sign = x.0.0; spelled = x.0.1; last = inr refl; bare = subst (λ z. NoBrackets i z) (turned x.1) (q, r, tt); behind = ap (number_behind i) x.1 } in
        subst (λ z. Grouped i (tokens_made (made_from (suc i) final (Some h) bs)) (glue g z ++ bs)) x.1
        (held (suc i) (lone_text t) (now (a_sign t)) h i g f.2 (before_step i (a_sign t) (sign_behind bs) k before) e is_held)

    none_sign : (t : Text) → BitsFit p (bit (a_sign t) ∷ bs) → known_from i k (bit (a_sign t) ∷ bs) ≡ final → (o c : Bool) → is_one_of final.opened i ≡ o → is_one_of final.closed i ≡ c
        → Grouped i (tokens_made (rest_made i (if o then behind None open_list else if c then behind None close_list else if false then record { done = []; held = more None t } else record { done = []; held = more None t }) bs)) (bit (a_sign t) ∷ bs)
    none_sign t f e true c q r =
        (g, bs, ap (λ z. bit (a_sign z) ∷ bs) (is_text t (codes "<") (opens_by i k (bit (a_sign t)) bs before (ap (λ z. is_one_of z.opened i) e ∙ q))), q, none (suc i) (lone_text t) (now (a_sign t)) f.2 (before_step i (a_sign t) (sign_behind bs) k before) e)
    none_sign t f e false true q r =
        (g, bs, ap (λ z. bit (a_sign z) ∷ bs) (is_text t (codes ">") (closes_by i k (bit (a_sign t)) bs before (ap (λ z. is_one_of z.closed i) e ∙ r))), (q, r), none (suc i) (lone_text t) (now (a_sign t)) f.2 (before_step i (a_sign t) (sign_behind bs) k before) e)
    none_sign t f e false false q r = begun_sign t f e q r

    none_here : (w : What) → BitsFit p (bit w ∷ bs) → known_from i k (bit w ∷ bs) ≡ final → Grouped i (tokens_made (made_from i final None (bit w ∷ bs))) (bit w ∷ bs)
    none_here (a_name t) f e = (g, bs, refl, tt, none (suc i) None (now (a_name t)) f.2 (before_step i (a_name t) (sign_behind bs) k before) e)
    none_here (a_number t) f e = (g, bs, refl, tt, none (suc i) None (now (a_number t)) f.2 (before_step i (a_number t) (sign_behind bs) k before) e)
    none_here (a_sign t) f e = none_sign t f e (is_one_of final.opened i) (is_one_of final.closed i) refl refl

    -- behind what is held
    abbrev join_by : Bool → Bool → Bool → Option Held → Text → Joined
    join_by o c j h t = if o then behind h open_list else if c then behind h close_list else if j then record { done = []; held = more h t } else record { done = let_go h; held = more None t }

    module _ (h : Held) (first : ℕ) (x : IsHeld p i h first) (g1 : Bool) where
      -- what does not go on with it
      apart : (w : What) → BitsFit p (bit w ∷ bs) → known_from i k (bit w ∷ bs) ≡ final → tokens_made (made_from i final (Some h) (bit w ∷ bs)) ≡ symbol x.sign ∷ tokens_made (made_from i final None (bit w ∷ bs)) → Grouped first (tokens_made (made_from i final (Some h) (bit w ∷ bs))) (glue g1 (sign_bits h.text) ++ bit w ∷ bs)
      apart w f e q = subst (λ z. Grouped first z (glue g1 (sign_bits h.text) ++ bit w ∷ bs)) (turned q) (held_then p i h first x g1 (tokens_made (made_from i final None (bit w ∷ bs))) (bit w ∷ bs) (none_here w f e))

      let_go_then : (t : Text) (o c : Bool) → tokens_made (rest_made i (join_by o c false (Some h) t) bs) ≡ symbol x.sign ∷ tokens_made (rest_made i (join_by o c false None t) bs)
      let_go_then t true c = released_more h x.sign x.spelled (record { token = open_list; count = 1 } ∷ []) (made_from (suc i) final None bs)
      let_go_then t false true = released_more h x.sign x.spelled (record { token = close_list; count = 1 } ∷ []) (made_from (suc i) final None bs)
      let_go_then t false false = released h x.sign x.spelled (made_from (suc i) final (more None t) bs)

      -- one sign more
      goes_on : (t : Text) → BitsFit p (bit (a_sign t) ∷ bs) → known_from i k (bit (a_sign t) ∷ bs) ≡ final → is_one_of final.opened i ≡ false → is_one_of final.closed i ≡ false → joins (Some h) t g ≡ true
          → Grouped first (tokens_made (made_from (suc i) final (more (Some h) t) bs)) (glue g1 (sign_bits h.text) ++ bit (a_sign t) ∷ bs)
      goes_on t f e q r j =
          let y : (g ≡ true) × (is_some (symbol_of (h.text ++ t)) ≡ true) = and_parts g (is_some (symbol_of (h.text ++ t))) j in
          let s : (s : Symbol) × (symbol_text s ≡ h.text ++ t) = there (h.text ++ t) y.1 in
          let plain : is_plain_text h.text ≡ true = ap is_plain_text (turned x.spelled) ∙ plain_symbol x.sign in
          let apart : meet p (lone_text t) ≡ false = turned (ap (λ b. b && meet p (lone_text t)) y.0) ∙ f.1 in
          let bits : sign_bits (h.text ++ t) ≡ sign_bits h.text ++ sign_bit true t ∷ [] = joined_bits h.text t s.0 s.1 x.sign x.spelled f.0 (alone t apart x.last) in
          let both : Held = record { text = h.text ++ t; count = suc h.count } in
          let is_held : IsHeld (lone_text t) (suc i) both first = record {
            sign = s.0;
            spelled = s.1;
            last = inl (lone_joined h.text t plain f.0);
            bare = subst (NoBrackets first) (turned bits) (bare_joined (sign_bits h.text) first x.bare (sign_bit true t ∷ []) (subst (λ z. NoBrackets z (sign_bit true t ∷ [])) (turned x.behind) (q, r, tt)));
            behind = ap (number_behind first) bits ∙ (behind_joined (sign_bits h.text) (sign_bit true t) first ∙ ap (λ z. suc z) x.behind);
          } in
          subst (λ z. Grouped first (tokens_made (made_from (suc i) final (Some both) bs)) z) (ap (λ z. glue g1 z ++ bs) bits ∙ (glue_joined g1 (sign_bits h.text) (sign_bit true t) bs (bits_there h.text plain) ∙ ap (λ b. glue g1 (sign_bits h.text) ++ record { what = a_sign t; is_glued = b } ∷ bs) (turned y.0)))
          (held (suc i) (lone_text t) (now (a_sign t)) both first g1 f.2 (before_step i (a_sign t) (sign_behind bs) k before) e is_held) where
            alone : (t : Text) → meet p (lone_text t) ≡ false → (lone_text h.text ≡ None) ⊎ (lone_text h.text ≡ p) → meet (lone_text h.text) (lone_text t) ≡ false
            alone t m (inl q) = ap (λ z. meet z (lone_text t)) q
            alone t m (inr q) = ap (λ z. meet z (lone_text t)) q ∙ m

            bare_joined : (xs : List Bit) (n : ℕ) → NoBrackets n xs → (ys : List Bit) → NoBrackets (number_behind n xs) ys → NoBrackets n (xs ++ ys)
            bare_joined [] n a ys b = b
            bare_joined (x ∷ xs) n a ys b = (a.0, a.1, bare_joined xs (suc n) a.2 ys b)

      held_sign : (t : Text) → BitsFit p (bit (a_sign t) ∷ bs) → known_from i k (bit (a_sign t) ∷ bs) ≡ final → (o c j : Bool) → is_one_of final.opened i ≡ o → is_one_of final.closed i ≡ c → joins (Some h) t g ≡ j
          → Grouped first (tokens_made (made_from i final (Some h) (bit (a_sign t) ∷ bs))) (glue g1 (sign_bits h.text) ++ bit (a_sign t) ∷ bs)
      held_sign t f e o c j q r v = by o c j q r v where
        same : (o c j : Bool) → is_one_of final.opened i ≡ o → is_one_of final.closed i ≡ c → joins (Some h) t g ≡ j → tokens_made (made_from i final (Some h) (bit (a_sign t) ∷ bs)) ≡ tokens_made (rest_made i (join_by o c j (Some h) t) bs)
        same o c j q r v =
            ap (λ z. tokens_made (rest_made i (join_by z (is_one_of final.closed i) (joins (Some h) t g) (Some h) t) bs)) q
            ∙ (ap (λ z. tokens_made (rest_made i (join_by o z (joins (Some h) t g) (Some h) t) bs)) r ∙ ap (λ z. tokens_made (rest_made i (join_by o c z (Some h) t) bs)) v)

        same_none : (o c : Bool) → is_one_of final.opened i ≡ o → is_one_of final.closed i ≡ c → tokens_made (made_from i final None (bit (a_sign t) ∷ bs)) ≡ tokens_made (rest_made i (join_by o c false None t) bs)
        same_none o c q r =
            ap (λ z. tokens_made (rest_made i (join_by z (is_one_of final.closed i) false None t) bs)) q ∙ ap (λ z. tokens_made (rest_made i (join_by o z false None t) bs)) r

        ends : (o c j : Bool) → is_one_of final.opened i ≡ o → is_one_of final.closed i ≡ c → joins (Some h) t g ≡ j → tokens_made (rest_made i (join_by o c j (Some h) t) bs) ≡ tokens_made (rest_made i (join_by o c false (Some h) t) bs) → Grouped first (tokens_made (made_from i final (Some h) (bit (a_sign t) ∷ bs))) (glue g1 (sign_bits h.text) ++ bit (a_sign t) ∷ bs)
        ends o c j q r v m = apart (a_sign t) f e (same o c j q r v ∙ (m ∙ (let_go_then t o c ∙ ap (λ z. symbol x.sign ∷ z) (turned (same_none o c q r)))))

        by : (o c j : Bool) → is_one_of final.opened i ≡ o → is_one_of final.closed i ≡ c → joins (Some h) t g ≡ j → Grouped first (tokens_made (made_from i final (Some h) (bit (a_sign t) ∷ bs))) (glue g1 (sign_bits h.text) ++ bit (a_sign t) ∷ bs)
        by true c j q r v = ends true c j q r v refl
        by false true j q r v = ends false true j q r v refl
        by false false false q r v = ends false false false q r v refl
        by false false true q r v = subst (λ z. Grouped first z (glue g1 (sign_bits h.text) ++ bit (a_sign t) ∷ bs)) (turned (same false false true q r v)) (goes_on t f e q r v)

      held_here : (w : What) → BitsFit p (bit w ∷ bs) → known_from i k (bit w ∷ bs) ≡ final → Grouped first (tokens_made (made_from i final (Some h) (bit w ∷ bs))) (glue g1 (sign_bits h.text) ++ bit w ∷ bs)
      held_here (a_name t) f e = apart (a_name t) f e (released_more h x.sign x.spelled (record { token = name t; count = 1 } ∷ []) (made_from (suc i) final None bs))
      held_here (a_number t) f e = apart (a_number t) f e (released_more h x.sign x.spelled (record { token = number t; count = 1 } ∷ []) (made_from (suc i) final None bs))
      held_here (a_sign t) f e = held_sign t f e (is_one_of final.opened i) (is_one_of final.closed i) (joins (Some h) t g) refl refl refl

  groups : (bs : List Bit) → NoneGrouped bs × HeldGrouped bs
  groups [] = (
    (λ i p k f b e. refl),
    (λ i p k h first g f b e x.
        subst (λ z. Grouped first z (glue g (sign_bits h.text) ++ [])) (turned (ap tokens_made (turned (append-nil (let_go (Some h)))) ∙ released h x.sign x.spelled [])) (held_then p i h first x g [] [] refl)),
  )
  groups (b ∷ bs) = by (groups bs) where
    by : NoneGrouped bs × HeldGrouped bs → NoneGrouped (b ∷ bs) × HeldGrouped (b ∷ bs)
    by r = ((λ i p k f q e. none_here bs r.0 r.1 b.is_glued i p k q b.what f e), (λ i p k h first g f q e x. held_here bs r.0 r.1 b.is_glued i p k q h first x g b.what f e))

-- pieces that fit are those of their tokens
pub grouped : (bs : List Bit) → BitsFit None bs → Grouped (brackets bs) 0 (tokens_made (made_from 0 (brackets bs) None bs)) bs
grouped bs f = (groups (brackets bs) bs).0 0 None nothing_known f (λ n l. ((refl, refl), refl)) refl
