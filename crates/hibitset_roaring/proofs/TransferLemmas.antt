-- Bytes that a reader gave and that a writer took, where they are known.
use Rattle.std.proofs.Common.{◌≡◌, ℕ, ◌+◌, ◌-◌, ◌<◌, ◌≤◌, ◌++◌, List, [], None, Some, length, take, drop, refl, sym, ap, ◌∙◌, append-nil, append_assoc, arith}
use Rattle.std.specs.Prelude.{IfSome}
use Rattle.std.specs.declared.option.Option.{Option}
use Rattle.std.specs.Io.KnownBytes.{Appends, Keeps, Consumes, IsAtEnd}
use Rattle.std.proofs.lemmas.List.{take_all, take-append-drop, length-drop, length-append}
use Rattle.hibitset_roaring.specs.Transfers.{GivesFront, WritesFront}

-- ---- from a reader

pub consumes_none : (o : Option (List ℕ)) → Consumes o o []
consumes_none None = tt
consumes_none (Some xs) = refl

pub consumes_more : (a b c : Option (List ℕ)) (x y : List ℕ) → Consumes a b x → Consumes b c y → Consumes a c (x ++ y)
consumes_more None b c x y h k = tt
consumes_more (Some a) None c x y h k = absurd h
consumes_more (Some a) (Some b) None x y h k = absurd k
consumes_more (Some a) (Some b) (Some c) x y h k = h ∙ ap (λ z. x ++ z) k ∙ sym (append_assoc x y c)

pub gives_more : (a b c : Option (List ℕ)) (x : List ℕ) (most next : ℕ) → Consumes a b x → length x ≤ most → GivesFront next b c → GivesFront (most + next) a c
gives_more a b c x most next h few more =
    let n = length-append x more.0 in
    let m = more.2 in
    (x ++ more.0, consumes_more a b c x more.0 h more.1, omega (arith, n, m, few))

-- what was read behind the bytes so far
pub reads_on : (a b c : Option (List ℕ)) (old new : List ℕ) → Consumes a b old → ((bytes : List ℕ) × (new ≡ old ++ bytes) × Consumes b c bytes) → Consumes a c new
reads_on a b c old new h more = rw more.1 (consumes_more a b c old more.0 h more.2)

-- A reader at its end gave all that it had.
pub all_given : (a b : Option (List ℕ)) (input : List ℕ) → Consumes a b input → IsAtEnd b → IfSome a (λ bytes. input ≡ bytes)
all_given None b input h end = tt
all_given (Some a) None input h end = absurd h
all_given (Some a) (Some b) input h end = sym (h ∙ ap (λ z. input ++ z) end ∙ append-nil input)

-- What was read is not longer than what was there.
pub too_many : (a b : Option (List ℕ)) (input : List ℕ) (most : ℕ) → Consumes a b input → most < length input → IfSome a (λ bytes. most < length bytes)
too_many None b input most h more = tt
too_many (Some a) None input most h more = absurd h
too_many (Some a) (Some b) input most h more = let n = ap length h in let m = length-append input b in omega (arith, n, m, more)

-- ---- to a writer

pub appends_none : (o : Option (List ℕ)) → Appends o o []
appends_none None = tt
appends_none (Some xs) = sym (append-nil xs)

pub appends_more : (a b c : Option (List ℕ)) (x y : List ℕ) → Appends a b x → Appends b c y → Appends a c (x ++ y)
appends_more None b c x y h k = tt
appends_more (Some a) None c x y h k = absurd h
appends_more (Some a) (Some b) None x y h k = absurd k
appends_more (Some a) (Some b) (Some c) x y h k = k ∙ ap (λ z. z ++ y) h ∙ append_assoc a x y

pub appends_kept : (a b c : Option (List ℕ)) (x : List ℕ) → Appends a b x → Keeps b c → Appends a c x
appends_kept None b c x h k = tt
appends_kept (Some a) None c x h k = absurd h
appends_kept (Some a) (Some b) None x h k = absurd k
appends_kept (Some a) (Some b) (Some c) x h k = k ∙ h

-- What was taken, and what is left.
pub record Moves (old new : Option (List ℕ)) (bytes left : List ℕ) : Type 0 where
  pub front : List ℕ
  pub whole : bytes ≡ front ++ left
  pub written : Appends old new front

-- what follows the first n bytes, up to the end
behind : (n : ℕ) (bytes : List ℕ) → take (length bytes - n) (drop n bytes) ≡ drop n bytes
behind n bytes = let few = length-drop n bytes in take_all (length bytes - n) (drop n bytes) (omega (arith, few))

pub moves_none : (o : Option (List ℕ)) (bytes : List ℕ) → Moves o o bytes bytes
moves_none o bytes = record { front = []; whole = refl; written = appends_none o }

pub moves_more : (a b c : Option (List ℕ)) (bytes left : List ℕ) (n : ℕ) → Moves a b bytes left → Appends b c (take n left) → Moves a c bytes (take (length left - n) (drop n left))
moves_more a b c bytes left n h more = record {
  front = h.front ++ take n left;
  whole = h.whole ∙ ap (λ z. h.front ++ z) (sym (take-append-drop n left)) ∙ sym (append_assoc h.front (take n left) (drop n left)) ∙ ap (λ z. (h.front ++ take n left) ++ z) (sym (behind n left));
  written = appends_more a b c h.front (take n left) h.written more;
}

pub moves_front : (a b : Option (List ℕ)) (bytes left : List ℕ) → Moves a b bytes left → WritesFront a b bytes
moves_front a b bytes left h = record { front = h.front; rest = left; whole = h.whole; written = h.written }

pub moves_kept : (a b c : Option (List ℕ)) (bytes left : List ℕ) → Moves a b bytes left → Keeps b c → WritesFront a c bytes
moves_kept a b c bytes left h keeps = record { front = h.front; rest = left; whole = h.whole; written = appends_kept a b c h.front h.written keeps }

pub moves_all : (a b : Option (List ℕ)) (bytes left : List ℕ) → Moves a b bytes left → left ≡ [] → Appends a b bytes
moves_all a b bytes left h none = rw (h.whole ∙ ap (λ z. h.front ++ z) none ∙ append-nil h.front) h.written
