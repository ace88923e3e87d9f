use Rattle.std.proofs.Common.{refl, sym, subst}
use Rattle.wesl_text_read.specs.TakenWords.{AreTakenWords}
use Rattle.wesl_text_read.proofs.TakenWords.{taken}
use Rattle.wesl_text_read.proofs.words.taken_words.Goals as goal

pub returns-in-78 : goal.returns-in-78
returns-in-78 c = subst (λ b. AreTakenWords b _) (sym c.in-78.is) (taken 78 _ refl refl)

pub returns-in-83 : goal.returns-in-83
returns-in-83 c = subst (λ b. AreTakenWords b _) (sym c.in-83.is) (taken 83 _ refl refl)

pub returns-in-97 : goal.returns-in-97
returns-in-97 c = subst (λ b. AreTakenWords b _) (sym c.in-97.is) (taken 97 _ refl refl)

pub returns-in-98 : goal.returns-in-98
returns-in-98 c = subst (λ b. AreTakenWords b _) (sym c.in-98.is) (taken 98 _ refl refl)

pub returns-in-99 : goal.returns-in-99
returns-in-99 c = subst (λ b. AreTakenWords b _) (sym c.in-99.is) (taken 99 _ refl refl)

pub returns-in-100 : goal.returns-in-100
returns-in-100 c = subst (λ b. AreTakenWords b _) (sym c.in-100.is) (taken 100 _ refl refl)

pub returns-in-101 : goal.returns-in-101
returns-in-101 c = subst (λ b. AreTakenWords b _) (sym c.in-101.is) (taken 101 _ refl refl)

pub returns-in-102 : goal.returns-in-102
returns-in-102 c = subst (λ b. AreTakenWords b _) (sym c.in-102.is) (taken 102 _ refl refl)

pub returns-in-103 : goal.returns-in-103
returns-in-103 c = subst (λ b. AreTakenWords b _) (sym c.in-103.is) (taken 103 _ refl refl)

pub returns-in-104 : goal.returns-in-104
returns-in-104 c = subst (λ b. AreTakenWords b _) (sym c.in-104.is) (taken 104 _ refl refl)

pub returns-in-105 : goal.returns-in-105
returns-in-105 c = subst (λ b. AreTakenWords b _) (sym c.in-105.is) (taken 105 _ refl refl)

pub returns-in-108 : goal.returns-in-108
returns-in-108 c = subst (λ b. AreTakenWords b _) (sym c.in-108.is) (taken 108 _ refl refl)

pub returns-in-109 : goal.returns-in-109
returns-in-109 c = subst (λ b. AreTakenWords b _) (sym c.in-109.is) (taken 109 _ refl refl)

pub returns-in-110 : goal.returns-in-110
returns-in-110 c = subst (λ b. AreTakenWords b _) (sym c.in-110.is) (taken 110 _ refl refl)

pub returns-in-111 : goal.returns-in-111
returns-in-111 c = subst (λ b. AreTakenWords b _) (sym c.in-111.is) (taken 111 _ refl refl)

pub returns-in-112 : goal.returns-in-112
returns-in-112 c = subst (λ b. AreTakenWords b _) (sym c.in-112.is) (taken 112 _ refl refl)

pub returns-in-114 : goal.returns-in-114
returns-in-114 c = subst (λ b. AreTakenWords b _) (sym c.in-114.is) (taken 114 _ refl refl)

pub returns-in-115 : goal.returns-in-115
returns-in-115 c = subst (λ b. AreTakenWords b _) (sym c.in-115.is) (taken 115 _ refl refl)

pub returns-in-116 : goal.returns-in-116
returns-in-116 c = subst (λ b. AreTakenWords b _) (sym c.in-116.is) (taken 116 _ refl refl)

pub returns-in-117 : goal.returns-in-117
returns-in-117 c = subst (λ b. AreTakenWords b _) (sym c.in-117.is) (taken 117 _ refl refl)

pub returns-in-118 : goal.returns-in-118
returns-in-118 c = subst (λ b. AreTakenWords b _) (sym c.in-118.is) (taken 118 _ refl refl)

pub returns-in-119 : goal.returns-in-119
returns-in-119 c = subst (λ b. AreTakenWords b _) (sym c.in-119.is) (taken 119 _ refl refl)

pub returns-in-121 : goal.returns-in-121
returns-in-121 c = subst (λ b. AreTakenWords b _) (sym c.in-121.is) (taken 121 _ refl refl)
