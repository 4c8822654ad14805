-- One piece more of a source.
use Rattle.std.proofs.Common.{arith, ◌≡◌, ◌⊎◌, inl, inr, ℕ, ◌+◌, ◌<◌, List, [], ◌∷◌, ◌++◌, length, Option, Some, None, refl, sym, ap, ◌∙◌, subst}
use Rattle.std.specs.Prelude.{IfSome}
use Rattle.std.specs.List.{flat_map}
use Rattle.std.specs.Io.KnownBytes.{Consumes, IsAtEnd}
use Rattle.std.proofs.lemmas.List.{append-nil, append_assoc, length-append}
use Rattle.std.proofs.lemmas.List.Concat.{flat_map-append}
use Rattle.devices.specs.Source.{Gives, GivesPieces, GivesSome, IsRefused}
use Rattle.devices.specs.Taker.{RefusesPiece}

-- ---- what a source gives

GivesPieces-push : {S : Type 0} (gives : S → List ℕ → S → Type 0) (old middle new : S) (pieces : List (List ℕ)) (piece : List ℕ)
    → GivesPieces gives old pieces middle → gives middle piece new → GivesPieces gives old (pieces ++ piece ∷ []) new
GivesPieces-push gives old middle new [] piece same step = (new, (subst (λ s. gives s piece new) same step, refl))
GivesPieces-push gives old middle new (first ∷ pieces) piece (next, (given, rest)) step =
    (next, (given, GivesPieces-push gives next middle new pieces piece rest step))

pub Gives-next : {S : Type 0} (gives : S → List ℕ → S → Type 0) (old middle new : S) (text piece : List ℕ) → Gives gives old text middle
    → gives middle piece new → Gives gives old (text ++ piece) new
Gives-next gives old middle new text piece (pieces, (is_text, given)) step =
    let bytes = λ (p : List ℕ). p in
    let joined : flat_map bytes (pieces ++ piece ∷ []) ≡ flat_map bytes pieces ++ piece =
    flat_map-append bytes pieces (piece ∷ []) ∙ ap (λ r. flat_map bytes pieces ++ r) (append-nil piece) in
    (pieces ++ piece ∷ [], (ap (λ t. t ++ piece) is_text ∙ sym joined, GivesPieces-push gives old middle new pieces piece given step))

-- ---- what is left of its text

Consumes-next : (old middle new : Option (List ℕ)) (front back : List ℕ) → Consumes old middle front → Consumes middle new back
    → Consumes old new (front ++ back)
Consumes-next None middle new front back e f = tt
Consumes-next (Some xs) None new front back e f = absurd e
Consumes-next (Some xs) (Some ys) None front back e f = absurd f
Consumes-next (Some xs) (Some ys) (Some zs) front back e f = e ∙ ap (λ r. front ++ r) f ∙ sym (append_assoc front back zs)

-- nothing is left: that was all
Consumes-all : (old new : Option (List ℕ)) (text : List ℕ) → Consumes old new text → IsAtEnd new → IfSome old (λ whole. text ≡ whole)
Consumes-all None new text e ended = tt
Consumes-all (Some xs) None text e ended = absurd e
Consumes-all (Some xs) (Some ys) text e ended = sym (e ∙ ap (λ r. text ++ r) ended ∙ append-nil text)

-- ---- a source that is read

-- the source was read so far, and what it gave was handed on
pub record IsReadUpTo {S T : Type 0} (gives : S → List ℕ → S → Type 0) (left_of : S → Option (List ℕ)) (has_taken : T → List ℕ → List ℕ → Type 0)
    (old now : S) (taker taken : T) : Type 0 where
  pub text : List ℕ
  pub given : Gives gives old text now
  pub left : Consumes (left_of old) (left_of now) text
  pub handed : (before : List ℕ) → has_taken taker before [] → has_taken taken before text

-- a piece more is read and handed on
pub IsReadUpTo-next : {S T : Type 0} (gives : S → List ℕ → S → Type 0) (left_of : S → Option (List ℕ)) (has_taken : T → List ℕ → List ℕ → Type 0)
    (old middle new : S) (taker before_piece behind_piece : T) (bytes piece : List ℕ) → gives middle bytes new → bytes ≡ piece
    → Consumes (left_of middle) (left_of new) piece
    → ((before text : List ℕ) → has_taken before_piece before text → has_taken behind_piece before (text ++ piece))
    → IsReadUpTo gives left_of has_taken old middle taker before_piece → IsReadUpTo gives left_of has_taken old new taker behind_piece
IsReadUpTo-next gives left_of has_taken old middle new taker before_piece behind_piece bytes piece step same left takes so_far = record {
  text = so_far.text ++ piece;
  given = Gives-next gives old middle new so_far.text piece so_far.given (subst (λ p. gives middle p new) same step);
  left = Consumes-next (left_of old) (left_of middle) (left_of new) so_far.text piece so_far.left left;
  handed = λ before none. takes before so_far.text (so_far.handed before none);
}

-- the end is reported
pub IsReadUpTo-end : {S T : Type 0} (gives : S → List ℕ → S → Type 0) (left_of : S → Option (List ℕ)) (has_taken : T → List ℕ → List ℕ → Type 0)
    (old now : S) (taker taken : T) → IsAtEnd (left_of now) → (so_far : IsReadUpTo gives left_of has_taken old now taker taken)
    → IfSome (left_of old) (λ whole. so_far.text ≡ whole)
IsReadUpTo-end gives left_of has_taken old now taker taken ended so_far =
    Consumes-all (left_of old) (left_of now) so_far.text so_far.left ended

-- ---- memory is refused

-- where it is for a piece, the source gave that
pub refused_or_given : {S T : Type 0} (gives : S → List ℕ → S → Type 0) (source_refuses : S → S → Type 0) (has_taken : T → List ℕ → List ℕ → Type 0)
    (refuses : T → List ℕ → Type 0) (old new : S) (taker : T)
    → IsRefused gives source_refuses old new ⊎ RefusesPiece gives has_taken refuses old new taker
    → IsRefused gives source_refuses old new ⊎ GivesSome gives old new
refused_or_given gives source_refuses has_taken refuses old new taker (inl refused) = inl refused
refused_or_given gives source_refuses has_taken refuses old new taker (inr refused) =
    let count : length (refused.text ++ refused.piece) ≡ length refused.text + length refused.piece = length-append refused.text refused.piece in
    let some : 0 < length refused.piece = refused.some in
    inr (refused.text ++ refused.piece, refused.given, omega arith)
