-- Known bytes, lines and what the lines say.
use Rattle.std.proofs.Common.{◌≡◌, ℕ, ◌<◌, ◌+◌, length-append, Bool, true, false, not, ◌==◌, List, [], ◌∷◌, ◌++◌, length, refl, ap, sym, subst, ◌∙◌, arith, append_assoc, append-nil, cond, take, drop, Bor, is_ok}
use Rattle.std.specs.Prelude.{Some, None, IfErr, OnOk, Ok, Err}
use Rattle.std.specs.Result.{IsErrAnd}
use Rattle.std.specs.declared.option.Option.{Option}
use Rattle.std.specs.declared.result.Result.{Result}
use Rattle.std.specs.Option.{option_map, unwrap_or}
use Rattle.std.specs.List.{join_by, flat_map, onto_first}
use Rattle.std.specs.Io.KnownBytes.{Appends, Consumes, Keeps}
use Rattle.std.proofs.lemmas.Bool.Decides.{nat_tests}
use Rattle.std.proofs.lemmas.List.{take-append-drop}
use Rattle.std.proofs.lemmas.List.Concat.{flat_map-append}
use Rattle.hibitset_run.specs.Text.{lines_of, Say, IsFirstBad, printed}
use Rattle.hibitset_run.specs.ScriptParser.{IsCut, lacks, Moves, WritesFront}
use Rattle.hibitset_run.proofs.LineLemmas.{told, text_in}

pub appends_none : (o : Option (List ℕ)) → Appends o o []
appends_none None = tt
appends_none (Some xs) = sym (append-nil xs)

pub appends_more : (a b c : Option (List ℕ)) (x y : List ℕ) → Appends a b x → Appends b c y → Appends a c (x ++ y)
appends_more None b c x y h k = tt
appends_more (Some a) None c x y h k = absurd h
appends_more (Some a) (Some b) None x y h k = absurd k
appends_more (Some a) (Some b) (Some c) x y h k = k ∙ ap (λ z. z ++ y) h ∙ append_assoc a x y

pub appends_kept : (a b c : Option (List ℕ)) (x : List ℕ) → Appends a b x → Keeps b c → Appends a c x
appends_kept None b c x h k = tt
appends_kept (Some a) None c x h k = absurd h
appends_kept (Some a) (Some b) None x h k = absurd k
appends_kept (Some a) (Some b) (Some c) x h k = k ∙ h

pub consumes_none : (o : Option (List ℕ)) → Consumes o o []
consumes_none None = tt
consumes_none (Some xs) = refl

pub consumes_more : (a b c : Option (List ℕ)) (x y : List ℕ) → Consumes a b x → Consumes b c y → Consumes a c (x ++ y)
consumes_more None b c x y h k = tt
consumes_more (Some a) None c x y h k = absurd h
consumes_more (Some a) (Some b) None x y h k = absurd k
consumes_more (Some a) (Some b) (Some c) x y h k = h ∙ ap (λ z. x ++ z) k ∙ sym (append_assoc x y c)

-- the printed replies so far: part of them went to the writer, and the rest is ready
pub record IsPrinted (old new : Option (List ℕ)) (text all : List ℕ) : Type 0 where
  pub part : List ℕ
  pub went : Appends old new part
  pub whole : all ≡ part ++ text

pub printed_more : (a b c : Option (List ℕ)) (text ready left all line : List ℕ) → IsPrinted a b text all → ready ≡ text ++ line → Moves b c ready left → IsPrinted a c left (all ++ line)
printed_more a b c text ready left all line h more m = record {
  part = h.part ++ m.0;
  went = appends_more a b c h.part m.0 h.went m.1;
  whole = ap (λ z. z ++ line) h.whole ∙ append_assoc h.part text line ∙ ap (λ z. h.part ++ z) (sym more ∙ m.2) ∙ sym (append_assoc h.part m.0 left);
}

-- a front of what comes behind what is printed
pub printed_front : (a b c : Option (List ℕ)) (text ready line more : List ℕ) (all whole : List ℕ) → IsPrinted a b text all → ready ≡ text ++ line → WritesFront b c ready → whole ≡ (all ++ line) ++ more → WritesFront a c whole
printed_front a b c text ready line more all whole h is front e =
    let m = front.1 in (
      front.0 ++ more,
      (
        h.part ++ m.0,
        appends_more a b c h.part m.0 h.went m.1,
        e ∙ ap (λ z. (z ++ line) ++ more) h.whole ∙ ap (λ z. z ++ more) (append_assoc h.part text line ∙ ap (λ z. h.part ++ z) (sym is ∙ m.2) ∙ sym (append_assoc h.part m.0 front.0)) ∙ append_assoc (h.part ++ m.0) front.0 more,
      ),
    )

-- what is printed is a front of what is to be printed
pub printed_part : (a b : Option (List ℕ)) (text all more whole : List ℕ) → IsPrinted a b text all → whole ≡ all ++ more → WritesFront a b whole
printed_part a b text all more whole h e = (text ++ more, (h.part, h.went, e ∙ ap (λ z. z ++ more) h.whole ∙ append_assoc h.part text more))

-- the replies that were printed, and the others
pub printed_split : {X : Type 0} (shown : X → List ℕ) (xs : List X) (n : ℕ) → printed shown xs ≡ printed shown (take n xs) ++ printed shown (drop n xs)
printed_split shown xs n = ap (printed shown) (sym (take-append-drop n xs)) ∙ flat_map-append (λ x. shown x ++ 10 ∷ []) (take n xs) (drop n xs)

pub printed_push : {X : Type 0} (shown : X → List ℕ) (xs : List X) (x : X) → printed shown (xs ++ x ∷ []) ≡ printed shown xs ++ (shown x ++ 10 ∷ [])
printed_push shown xs x = flat_map-append (λ x. shown x ++ 10 ∷ []) xs (x ∷ []) ∙ ap (λ z. printed shown xs ++ z) (append-nil (shown x ++ 10 ∷ []))

-- what stands before the next of the items that these are the first of
abbrev pub between : {X : Type 0} → List X → List ℕ
between [] = []
between (x ∷ xs) = 32 ∷ []

pub between_push : {X : Type 0} (xs : List X) (x : X) → between (xs ++ x ∷ []) ≡ 32 ∷ []
between_push [] x = refl
between_push (y ∷ ys) x = refl

pub join_push : {X : Type 0} (f : X → List ℕ) (xs : List X) (x : X) → join_by f (32 ∷ []) (xs ++ x ∷ []) ≡ join_by f (32 ∷ []) xs ++ (between xs ++ f x)
join_push f [] x = append-nil (f x)
join_push f (y ∷ ys) x =
    ap (λ z. f y ++ z) (flat_map-append (λ y. 32 ∷ f y) ys (x ∷ [])) ∙ sym (append_assoc (f y) (flat_map (λ y. 32 ∷ f y) ys) ((32 ∷ f x) ++ []))
    ∙ ap (λ z. (f y ++ flat_map (λ y. 32 ∷ f y) ys) ++ z) (append-nil (32 ∷ f x))

-- the lines of a text that is cut at the first byte 10
lines_some : (f x : List ℕ) → lacks 10 f ≡ true → lines_of (f ++ 10 ∷ x) ≡ f ∷ lines_of x
lines_some [] x h = refl
lines_some (b ∷ f) x h =
    let other : (b == 10) ≡ false = grind (arith, nat_tests) in
    let more : lacks 10 f ≡ true = grind (arith, nat_tests) in
    ap (λ t. cond t ([] ∷ lines_of (f ++ 10 ∷ x)) (onto_first b (lines_of (f ++ 10 ∷ x)))) other ∙ ap (onto_first b) (lines_some f x more)

lines_none : (b : ℕ) (f : List ℕ) → lacks 10 (b ∷ f) ≡ true → lines_of (b ∷ f) ≡ (b ∷ f) ∷ []
lines_none b [] h =
    let other : (b == 10) ≡ false = grind (arith, nat_tests) in
    ap (λ t. cond t ([] ∷ []) (onto_first b [])) other
lines_none b (d ∷ f) h =
    let other : (b == 10) ≡ false = grind (arith, nat_tests) in
    let more : lacks 10 (d ∷ f) ≡ true = grind (arith, nat_tests) in
    ap (λ t. cond t ([] ∷ lines_of (d ∷ f)) (onto_first b (lines_of (d ∷ f)))) other ∙ ap (onto_first b) (lines_none d f more)

abbrev pub or_nothing : Option (List ℕ) → List ℕ
or_nothing None = []
or_nothing (Some x) = x

pub cut_lines : (bs f : List ℕ) (r : Option (List ℕ)) → IsCut 10 bs f r → 0 < length bs → lines_of bs ≡ f ∷ lines_of (or_nothing r)
cut_lines bs [] None h some = absurd (omega (arith, some, ap length h.1))
cut_lines bs (b ∷ f) None h some = ap lines_of h.1 ∙ lines_none b f ((told 10 (b ∷ f)).1 h.0)
cut_lines bs f (Some x) h some = ap lines_of h.1 ∙ lines_some f x ((told 10 f).1 h.0)

pub cut_shorter : (bs f : List ℕ) (r : Option (List ℕ)) → IsCut 10 bs f r → 0 < length bs → length (or_nothing r) < length bs
cut_shorter bs f None h some = some
cut_shorter bs f (Some x) h some =
    let whole : length bs ≡ length (f ++ 10 ∷ x) = ap length h.1 in
    let parts : length (f ++ 10 ∷ x) ≡ length f + (length x + 1) = grind (arith, length-append) in
    omega (arith, whole, parts)

-- what the first lines say, and the lines that are left
pub record IsSaid {C : Type 0} (Says : C → List ℕ → Type 0) (commands : List C) (all left : List (List ℕ)) : Type 0 where
  pub front : List (List ℕ)
  pub said : Say Says commands front
  pub whole : all ≡ front ++ left

say_push : {C : Type 0} (Says : C → List ℕ → Type 0) (cs : List C) (ls : List (List ℕ)) (c : C) (l : List ℕ) → Say Says cs ls → Says c l → Say Says (cs ++ c ∷ []) (ls ++ l ∷ [])
say_push Says [] [] c l h k = (k, tt)
say_push Says (d ∷ cs) (m ∷ ls) c l h k = (h.0, say_push Says cs ls c l h.1 k)
say_push Says [] (m ∷ ls) c l h k = absurd h
say_push Says (d ∷ cs) [] c l h k = absurd h

say_length : {C : Type 0} (Says : C → List ℕ → Type 0) (cs : List C) (ls : List (List ℕ)) → Say Says cs ls → length cs ≡ length ls
say_length Says [] [] h = refl
say_length Says (d ∷ cs) (m ∷ ls) h = let e = say_length Says cs ls h.1 in grind (arith, e)
say_length Says [] (m ∷ ls) h = absurd h
say_length Says (d ∷ cs) [] h = absurd h

pub said_push : {C : Type 0} (Says : C → List ℕ → Type 0) (cs : List C) (all left rest : List (List ℕ)) (c : C) (l : List ℕ) → IsSaid Says cs all left → left ≡ l ∷ rest → Says c l → IsSaid Says (cs ++ c ∷ []) all rest
said_push Says cs all left rest c l h next says = record {
  front = h.front ++ l ∷ [];
  said = say_push Says cs h.front c l h.said says;
  whole = h.whole ∙ ap (λ z. h.front ++ z) next ∙ sym (append_assoc h.front (l ∷ []) rest);
}

pub said_bad : {C : Type 0} (Says : C → List ℕ → Type 0) (cs : List C) (all left rest : List (List ℕ)) (l : List ℕ) (n : ℕ) → IsSaid Says cs all left → left ≡ l ∷ rest → ((c : C) → Says c l → ⊥) → n ≡ length cs + 1 → IsFirstBad Says all n
said_bad Says cs all left rest l n h next none number = let same = say_length Says cs h.front h.said in record {
  commands = cs;
  front = h.front;
  line = l;
  rest = rest;
  whole = h.whole ∙ ap (λ z. h.front ++ z) next;
  said = h.said;
  bad = none;
  number = omega (arith, number, same);
}

-- what is read of the slice behind the cut
pub unwrapped : (r : Option (Bor (List ℕ))) (d b : Bor (List ℕ)) → b ≡ unwrap_or r d → d.now ≡ [] → b.now ≡ or_nothing (option_map text_in r)
unwrapped None d b e empty = ap (λ (x : Bor (List ℕ)). x.now) e ∙ empty
unwrapped (Some x) d b e empty = ap (λ (x : Bor (List ℕ)). x.now) e

pub not_false : (b x : Bool) → x ≡ not b → b ≡ false → x ≡ true
not_false b x e f = e ∙ ap not f

pub on_ok : {T E : Type 0} (r : Result T E) (P : Type 0) → OnOk r P → is_ok r ≡ true → P
on_ok (Ok x) P h fine = h
on_ok (Err e) P h fine = absurd (cc)

-- an error that is handed on
pub handed_on : {T E : Type 0} (P : E → Type 0) (r : Result T E) (error : E) → IsErrAnd r (λ e. e ≡ error) → P error → IfErr r P
handed_on P (Ok x) error h fact = tt
handed_on P (Err e) error h fact = subst P (sym h) fact

pub joined_more : {X : Type 0} (f : X → List ℕ) (old text next space : List ℕ) (xs : List X) (x : X)
    → text ≡ old ++ join_by f (32 ∷ []) xs → space ≡ between xs → next ≡ text ++ (space ++ f x) → next ≡ old ++ join_by f (32 ∷ []) (xs ++ x ∷ [])
joined_more f old text next space xs x written parted more =
    more ∙ ap (λ z. z ++ (space ++ f x)) written ∙ ap (λ z. (old ++ join_by f (32 ∷ []) xs) ++ (z ++ f x)) parted
    ∙ append_assoc old (join_by f (32 ∷ []) xs) (between xs ++ f x) ∙ ap (λ z. old ++ z) (sym (join_push f xs x))
