-- What a fault rules out, and the faults of containers within a stream.
use Rattle.std.proofs.Common.{◌≡◌, ◌≢◌, ◌⊎◌, ℕ, ◌+◌, ◌<◌, ◌≤◌, true, false, List, length, refl, sym, ap, ◌∙◌, arith, inl, inr}
use Rattle.hibitset_roaring.specs.Numbers.{ones_in}
use Rattle.hibitset_roaring.specs.Format.{container_count, cardinality_of, is_run, run_count, run_total, container_at, size, IsStream, HasKeysBelow}
use Rattle.hibitset_roaring.specs.Faults.{IsLowNumber, IsCloseRun, IsLongRun, IsFault, IsReason}
use Rattle.hibitset_roaring.specs.declared.error.Fault.{Fault}
use Rattle.hibitset_roaring.specs.declared.error.Fault.TheVariants as faults
use Rattle.hibitset_roaring.specs.declared.error.ReadError.{ReadError}
use Rattle.hibitset_roaring.specs.declared.error.ReadError.TheVariants as errors
use Rattle.hibitset_roaring.proofs.LayoutLemmas.{first_within, at_within, next_at}

-- bytes with a fault are no stream with keys below the bound
pub not_stream : (bytes : List ℕ) (end : ℕ) → IsStream bytes → HasKeysBelow bytes end → (fault : Fault) (p : ℕ) → IsFault bytes end fault p → ⊥
not_stream bytes end stream below faults.TooShort p cut = elim cut [
  | inl h ↦ (let f = first_within bytes stream in let l = h.1 in omega (arith, f, l))
  | inr h ↦ (let w = at_within bytes h.container stream h.counted in let l = h.cut in omega (arith, w, l))
]
not_stream bytes end stream below faults.TooLong p long = let w = stream.whole in let a = long.0 in let b = long.1 in omega (arith, w, a, b)
not_stream bytes end stream below faults.BadCookie p bad = elim stream.cookie [ inl a ↦ bad.1 a | inr b ↦ bad.2 b ]
not_stream bytes end stream below faults.TooManyContainers p many = let f = stream.few in let m = many.1 in omega (arith, f, m)
not_stream bytes end stream below faults.KeysNotAscending p h = let a = stream.ascending h.container h.counted in let l = h.low in omega (arith, a, l)
not_stream bytes end stream below faults.OutOfRange p h = let b = below.keys h.container h.counted in let l = h.high in omega (arith, b, l)
not_stream bytes end stream below faults.WrongOffset p h = h.wrong (stream.offsets h.some h.container h.counted)
not_stream bytes end stream below faults.WrongCardinality p wrong = elim wrong [
  | inl h ↦ h.wrong (ap (λ a. ones_in bytes a 1024) h.here ∙ (stream.containers h.container h.counted).bits h.flat h.many)
  | inr h ↦ h.wrong (ap (λ a. run_total bytes a (run_count bytes a)) h.here ∙ ((stream.containers h.container h.counted).runs h.runs).total)
]
not_stream bytes end stream below faults.NotAscending p h =
    let a = ((stream.containers h.container h.counted).array h.flat h.few).ascending h.number.number h.number.counted in
    let l = h.number.low in
    omega (arith, a, l)
not_stream bytes end stream below faults.RunsNotApart p h =
    let a = ((stream.containers h.container h.counted).runs h.runs).apart h.run.run h.run.counted in
    let l = h.run.close in
    omega (arith, a, l)
not_stream bytes end stream below faults.RunPastEnd p h =
    let a = ((stream.containers h.container h.counted).runs h.runs).within h.run.run h.run.counted in
    let l = h.run.long in
    omega (arith, a, l)

-- a reason for which a stream is not read is want of memory
pub only_memory : (bytes : List ℕ) (end : ℕ) → IsStream bytes → HasKeysBelow bytes end → (error : ReadError) → IsReason bytes end error → error ≡ errors.Memory
only_memory bytes end stream below errors.Memory reason = refl
only_memory bytes end stream below (errors.Malformed m) reason = absurd (not_stream bytes end stream below m.fault m.at reason)

-- a container whose end lies past the bytes
pub cut_at : (bytes : List ℕ) (end k at : ℕ) → at ≡ container_at bytes k → k < container_count bytes → length bytes < at + size bytes k at → IsFault bytes end faults.TooShort at
cut_at bytes end k at here below past = inr (record { container = k; counted = below; here = here; cut = (let n = next_at bytes k at here in omega (arith, n, past)) })

module _ (bytes : List ℕ) (end k at : ℕ) (here : at ≡ container_at bytes k) (below : k < container_count bytes) (fault : Fault) (p : ℕ) where
  pub array_fault : is_run bytes k ≡ false → (len : ℕ) → len ≡ cardinality_of bytes k → len ≤ 4096 → (fault ≡ faults.NotAscending) × IsLowNumber bytes at len p → IsFault bytes end fault p
  array_fault flat len is few h = rw h.0 (record { container = k; counted = below; flat = flat; few = omega (arith, few, is); number = rw (← here, ← is) h.1 })

  pub runs_fault : is_run bytes k ≡ true → (len : ℕ) → len ≡ cardinality_of bytes k → ((fault ≡ faults.RunsNotApart) × IsCloseRun bytes at p) ⊎ ((fault ≡ faults.RunPastEnd) × IsLongRun bytes at p) ⊎ ((fault ≡ faults.WrongCardinality) × (p ≡ at) × (run_total bytes at (run_count bytes at) ≢ len)) → IsFault bytes end fault p
  runs_fault runs len is bad = elim bad [
    | inl h ↦ rw h.0 (record { container = k; counted = below; runs = runs; run = rw (← here) h.1 })
    | inr rest ↦ elim rest [
      | inl h ↦ rw h.0 (record { container = k; counted = below; runs = runs; run = rw (← here) h.1 })
      | inr h ↦ rw h.0 (inr (record { container = k; counted = below; runs = runs; here = h.1 ∙ here; wrong = λ e. h.2 (ap (λ a. run_total bytes a (run_count bytes a)) (sym h.1) ∙ (e ∙ sym is)) }))
    ]
  ]
