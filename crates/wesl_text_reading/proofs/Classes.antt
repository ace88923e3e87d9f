-- Tables of classes and operators.
use Rattle.std.specs.Prelude.{◌≡◌, Bool, true, false, not, ◌&&◌, if◌then◌else◌, Some}
use Rattle.std.proofs.Common.{refl, ap}
use Rattle.wesl_tree_syntax.specs.declared.expression.UnaryOperator.{UnaryOperator}
use Rattle.wesl_tree_syntax.specs.declared.expression.UnaryOperator.TheVariants as unary_operator
use Rattle.wesl_tree_syntax.specs.declared.expression.BinaryOperator.{BinaryOperator}
use Rattle.wesl_tree_syntax.specs.declared.expression.BinaryOperator.TheVariants as binary_operator
use Rattle.wesl_text_form.specs.Operators.{unary_symbol, binary_symbol, Class, primary, prefixed, product, sum, shift, comparison, bit_and, bit_or, bit_xor, both, either, operator_class, is_tight, takes_left, takes_right}
use Rattle.wesl_text_reading.specs.FirstTokens.{unary_of, binary_of}
use Rattle.std.proofs.lemmas.Bool.{and_parts}

-- a test of all classes
abbrev pub all_classes : (Class → Bool) → Bool
all_classes p = p primary && (p prefixed && (p product && (p sum && (p shift && (p comparison && (p bit_and && (p bit_or && (p bit_xor && (p both && (p either))))))))))

pub each : (p : Class → Bool) → all_classes p ≡ true → (c : Class) → p c ≡ true
each p h primary = (and_parts (p primary) (p prefixed && (p product && (p sum && (p shift && (p comparison && (p bit_and && (p bit_or && (p bit_xor && (p both && (p either)))))))))) h).0
each p h prefixed = (and_parts (p prefixed) (p product && (p sum && (p shift && (p comparison && (p bit_and && (p bit_or && (p bit_xor && (p both && (p either))))))))) (and_parts (p primary) (p prefixed && (p product && (p sum && (p shift && (p comparison && (p bit_and && (p bit_or && (p bit_xor && (p both && (p either)))))))))) h).1).0
each p h product = (and_parts (p product) (p sum && (p shift && (p comparison && (p bit_and && (p bit_or && (p bit_xor && (p both && (p either)))))))) (and_parts (p prefixed) (p product && (p sum && (p shift && (p comparison && (p bit_and && (p bit_or && (p bit_xor && (p both && (p either))))))))) (and_parts (p primary) (p prefixed && (p product && (p sum && (p shift && (p comparison && (p bit_and && (p bit_or && (p bit_xor && (p both && (p either)))))))))) h).1).1).0
each p h sum = (and_parts (p sum) (p shift && (p comparison && (p bit_and && (p bit_or && (p bit_xor && (p both && (p either))))))) (and_parts (p product) (p sum && (p shift && (p comparison && (p bit_and && (p bit_or && (p bit_xor && (p both && (p either)))))))) (and_parts (p prefixed) (p product && (p sum && (p shift && (p comparison && (p bit_and && (p bit_or && (p bit_xor && (p both && (p either))))))))) (and_parts (p primary) (p prefixed && (p product && (p sum && (p shift && (p comparison && (p bit_and && (p bit_or && (p bit_xor && (p both && (p either)))))))))) h).1).1).1).0
each p h shift = (and_parts (p shift) (p comparison && (p bit_and && (p bit_or && (p bit_xor && (p both && (p either)))))) (and_parts (p sum) (p shift && (p comparison && (p bit_and && (p bit_or && (p bit_xor && (p both && (p either))))))) (and_parts (p product) (p sum && (p shift && (p comparison && (p bit_and && (p bit_or && (p bit_xor && (p both && (p either)))))))) (and_parts (p prefixed) (p product && (p sum && (p shift && (p comparison && (p bit_and && (p bit_or && (p bit_xor && (p both && (p either))))))))) (and_parts (p primary) (p prefixed && (p product && (p sum && (p shift && (p comparison && (p bit_and && (p bit_or && (p bit_xor && (p both && (p either)))))))))) h).1).1).1).1).0
each p h comparison = (and_parts (p comparison) (p bit_and && (p bit_or && (p bit_xor && (p both && (p either))))) (and_parts (p shift) (p comparison && (p bit_and && (p bit_or && (p bit_xor && (p both && (p either)))))) (and_parts (p sum) (p shift && (p comparison && (p bit_and && (p bit_or && (p bit_xor && (p both && (p either))))))) (and_parts (p product) (p sum && (p shift && (p comparison && (p bit_and && (p bit_or && (p bit_xor && (p both && (p either)))))))) (and_parts (p prefixed) (p product && (p sum && (p shift && (p comparison && (p bit_and && (p bit_or && (p bit_xor && (p both && (p either))))))))) (and_parts (p primary) (p prefixed && (p product && (p sum && (p shift && (p comparison && (p bit_and && (p bit_or && (p bit_xor && (p both && (p either)))))))))) h).1).1).1).1).1).0
each p h bit_and = (and_parts (p bit_and) (p bit_or && (p bit_xor && (p both && (p either)))) (and_parts (p comparison) (p bit_and && (p bit_or && (p bit_xor && (p both && (p either))))) (and_parts (p shift) (p comparison && (p bit_and && (p bit_or && (p bit_xor && (p both && (p either)))))) (and_parts (p sum) (p shift && (p comparison && (p bit_and && (p bit_or && (p bit_xor && (p both && (p either))))))) (and_parts (p product) (p sum && (p shift && (p comparison && (p bit_and && (p bit_or && (p bit_xor && (p both && (p either)))))))) (and_parts (p prefixed) (p product && (p sum && (p shift && (p comparison && (p bit_and && (p bit_or && (p bit_xor && (p both && (p either))))))))) (and_parts (p primary) (p prefixed && (p product && (p sum && (p shift && (p comparison && (p bit_and && (p bit_or && (p bit_xor && (p both && (p either)))))))))) h).1).1).1).1).1).1).0
each p h bit_or = (and_parts (p bit_or) (p bit_xor && (p both && (p either))) (and_parts (p bit_and) (p bit_or && (p bit_xor && (p both && (p either)))) (and_parts (p comparison) (p bit_and && (p bit_or && (p bit_xor && (p both && (p either))))) (and_parts (p shift) (p comparison && (p bit_and && (p bit_or && (p bit_xor && (p both && (p either)))))) (and_parts (p sum) (p shift && (p comparison && (p bit_and && (p bit_or && (p bit_xor && (p both && (p either))))))) (and_parts (p product) (p sum && (p shift && (p comparison && (p bit_and && (p bit_or && (p bit_xor && (p both && (p either)))))))) (and_parts (p prefixed) (p product && (p sum && (p shift && (p comparison && (p bit_and && (p bit_or && (p bit_xor && (p both && (p either))))))))) (and_parts (p primary) (p prefixed && (p product && (p sum && (p shift && (p comparison && (p bit_and && (p bit_or && (p bit_xor && (p both && (p either)))))))))) h).1).1).1).1).1).1).1).0
each p h bit_xor = (and_parts (p bit_xor) (p both && (p either)) (and_parts (p bit_or) (p bit_xor && (p both && (p either))) (and_parts (p bit_and) (p bit_or && (p bit_xor && (p both && (p either)))) (and_parts (p comparison) (p bit_and && (p bit_or && (p bit_xor && (p both && (p either))))) (and_parts (p shift) (p comparison && (p bit_and && (p bit_or && (p bit_xor && (p both && (p either)))))) (and_parts (p sum) (p shift && (p comparison && (p bit_and && (p bit_or && (p bit_xor && (p both && (p either))))))) (and_parts (p product) (p sum && (p shift && (p comparison && (p bit_and && (p bit_or && (p bit_xor && (p both && (p either)))))))) (and_parts (p prefixed) (p product && (p sum && (p shift && (p comparison && (p bit_and && (p bit_or && (p bit_xor && (p both && (p either))))))))) (and_parts (p primary) (p prefixed && (p product && (p sum && (p shift && (p comparison && (p bit_and && (p bit_or && (p bit_xor && (p both && (p either)))))))))) h).1).1).1).1).1).1).1).1).0
each p h both = (and_parts (p both) (p either) (and_parts (p bit_xor) (p both && (p either)) (and_parts (p bit_or) (p bit_xor && (p both && (p either))) (and_parts (p bit_and) (p bit_or && (p bit_xor && (p both && (p either)))) (and_parts (p comparison) (p bit_and && (p bit_or && (p bit_xor && (p both && (p either))))) (and_parts (p shift) (p comparison && (p bit_and && (p bit_or && (p bit_xor && (p both && (p either)))))) (and_parts (p sum) (p shift && (p comparison && (p bit_and && (p bit_or && (p bit_xor && (p both && (p either))))))) (and_parts (p product) (p sum && (p shift && (p comparison && (p bit_and && (p bit_or && (p bit_xor && (p both && (p either)))))))) (and_parts (p prefixed) (p product && (p sum && (p shift && (p comparison && (p bit_and && (p bit_or && (p bit_xor && (p both && (p either))))))))) (and_parts (p primary) (p prefixed && (p product && (p sum && (p shift && (p comparison && (p bit_and && (p bit_or && (p bit_xor && (p both && (p either)))))))))) h).1).1).1).1).1).1).1).1).1).0
each p h either = (and_parts (p both) (p either) (and_parts (p bit_xor) (p both && (p either)) (and_parts (p bit_or) (p bit_xor && (p both && (p either))) (and_parts (p bit_and) (p bit_or && (p bit_xor && (p both && (p either)))) (and_parts (p comparison) (p bit_and && (p bit_or && (p bit_xor && (p both && (p either))))) (and_parts (p shift) (p comparison && (p bit_and && (p bit_or && (p bit_xor && (p both && (p either)))))) (and_parts (p sum) (p shift && (p comparison && (p bit_and && (p bit_or && (p bit_xor && (p both && (p either))))))) (and_parts (p product) (p sum && (p shift && (p comparison && (p bit_and && (p bit_or && (p bit_xor && (p both && (p either)))))))) (and_parts (p prefixed) (p product && (p sum && (p shift && (p comparison && (p bit_and && (p bit_or && (p bit_xor && (p both && (p either))))))))) (and_parts (p primary) (p prefixed && (p product && (p sum && (p shift && (p comparison && (p bit_and && (p bit_or && (p bit_xor && (p both && (p either)))))))))) h).1).1).1).1).1).1).1).1).1).1

-- one holds where the other does
abbrev pub implies : Bool → Bool → Bool
implies a b = if a then b else true

pub follows : (a b : Bool) → implies a b ≡ true → a ≡ true → b ≡ true
follows true b h e = h
follows false b h e = absurd (let g : false ≡ true = e in cc)

pub denied : (a : Bool) → not a ≡ true → a ≡ false
denied true h = absurd (let g : false ≡ true = h in cc)
denied false h = refl

-- no operation that takes one of this class on its left is taken on its right
abbrev no_right : Class → Class → Bool
no_right o k = implies (takes_left o k) (implies (not (is_tight o)) (not (takes_right k o)))

pub none_on_the_right : (o k : Class) → takes_left o k ≡ true → is_tight o ≡ false → takes_right k o ≡ false
none_on_the_right o k h t =
    let all : no_right o k ≡ true = each (λ c. no_right o c) (each (λ a. all_classes (λ c. no_right a c)) refl o) k in
    denied _ (follows _ _ (follows _ _ all h) (ap not t))

-- what takes an operation on its left takes the operation's right operand
abbrev left_of_right : Class → Class → Class → Bool
left_of_right o k c = implies (takes_left o k) (implies (takes_right k c) (takes_left o c))

pub takes_the_right : (o k c : Class) → takes_left o k ≡ true → takes_right k c ≡ true → takes_left o c ≡ true
takes_the_right o k c h r =
    let all : left_of_right o k c ≡ true = each (λ z. left_of_right o k z) (each (λ y. all_classes (λ z. left_of_right o y z)) (each (λ x. all_classes (λ y. all_classes (λ z. left_of_right x y z))) refl o) k) c in
    follows _ _ (follows _ _ all h) r

abbrev right_is_closed : Class → Class → Class → Bool
right_is_closed o k c = implies (takes_right o k) (implies (takes_left k c) (takes_right o c))

pub closed_right : (o k c : Class) → takes_right o k ≡ true → takes_left k c ≡ true → takes_right o c ≡ true
closed_right o k c h r =
    let all : right_is_closed o k c ≡ true = each (λ z. right_is_closed o k z) (each (λ y. all_classes (λ z. right_is_closed o y z)) (each (λ x. all_classes (λ y. all_classes (λ z. right_is_closed x y z))) refl o) k) c in
    follows _ _ (follows _ _ all h) r

abbrev tight_is_closed : Class → Class → Bool
tight_is_closed k c = implies (is_tight k) (implies (takes_left k c) (is_tight c))

pub closed_tight : (k c : Class) → is_tight k ≡ true → takes_left k c ≡ true → is_tight c ≡ true
closed_tight k c h r =
    let all : tight_is_closed k c ≡ true = each (λ z. tight_is_closed k z) (each (λ y. all_classes (λ z. tight_is_closed y z)) refl k) c in
    follows _ _ (follows _ _ all h) r

abbrev tight_is_taken : Class → Class → Bool
tight_is_taken o c = implies (is_tight c) (takes_left o c)

pub takes_tight : (o c : Class) → is_tight c ≡ true → takes_left o c ≡ true
takes_tight o c h =
    let all : tight_is_taken o c ≡ true = each (λ z. tight_is_taken o z) (each (λ y. all_classes (λ z. tight_is_taken y z)) refl o) c in
    follows _ _ all h

-- operators are what their symbols are
pub binary_again : (o : BinaryOperator) → binary_of (binary_symbol o) ≡ Some o
binary_again binary_operator.ShortCircuitOr = refl
binary_again binary_operator.ShortCircuitAnd = refl
binary_again binary_operator.Addition = refl
binary_again binary_operator.Subtraction = refl
binary_again binary_operator.Multiplication = refl
binary_again binary_operator.Division = refl
binary_again binary_operator.Remainder = refl
binary_again binary_operator.Equality = refl
binary_again binary_operator.Inequality = refl
binary_again binary_operator.LessThan = refl
binary_again binary_operator.LessThanEqual = refl
binary_again binary_operator.GreaterThan = refl
binary_again binary_operator.GreaterThanEqual = refl
binary_again binary_operator.BitwiseOr = refl
binary_again binary_operator.BitwiseAnd = refl
binary_again binary_operator.BitwiseXor = refl
binary_again binary_operator.ShiftLeft = refl
binary_again binary_operator.ShiftRight = refl

pub unary_again : (o : UnaryOperator) → unary_of (unary_symbol o) ≡ Some o
unary_again unary_operator.LogicalNegation = refl
unary_again unary_operator.Negation = refl
unary_again unary_operator.BitwiseComplement = refl
unary_again unary_operator.AddressOf = refl
unary_again unary_operator.Indirection = refl

pub never_tight : (o : BinaryOperator) → is_tight (operator_class o) ≡ false
never_tight binary_operator.ShortCircuitOr = refl
never_tight binary_operator.ShortCircuitAnd = refl
never_tight binary_operator.Addition = refl
never_tight binary_operator.Subtraction = refl
never_tight binary_operator.Multiplication = refl
never_tight binary_operator.Division = refl
never_tight binary_operator.Remainder = refl
never_tight binary_operator.Equality = refl
never_tight binary_operator.Inequality = refl
never_tight binary_operator.LessThan = refl
never_tight binary_operator.LessThanEqual = refl
never_tight binary_operator.GreaterThan = refl
never_tight binary_operator.GreaterThanEqual = refl
never_tight binary_operator.BitwiseOr = refl
never_tight binary_operator.BitwiseAnd = refl
never_tight binary_operator.BitwiseXor = refl
never_tight binary_operator.ShiftLeft = refl
never_tight binary_operator.ShiftRight = refl
