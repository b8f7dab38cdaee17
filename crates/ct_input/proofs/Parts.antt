-- A part of a grammar is read on its own.
use Rattle.std.proofs.Common.{◌≡◌, Bool, true, false, cond, Result, Ok, Err, refl}
use Rattle.ct_input.specs.declared.fault.Fault.{Fault}
use Rattle.ct_input.specs.Sheet.{Sheet, ◌>>=◌}
use Rattle.ct_input.specs.Grammar.{Grammar, done, nothing, word, number, signed, fork, barred, only, part, read, token_at, word_in, number_in, signed_in, only_in, nothing_at, barred_at, is_next, after_next}

-- steps one after the other
bind_bind : {X Y Z : Type 0} (r : Result X Fault) (a : X → Result Y Fault) (b : X → Result Z Fault) (h : Y → Result Z Fault) → ((x : X) → b x ≡ (a x >>= h)) → (r >>= b) ≡ ((r >>= a) >>= h)
bind_bind (Ok x) a b h same = same x
bind_bind (Err f) a b h same = refl

cond_bind : {Y Z : Type 0} (test : Bool) (a : Result Y Fault) (b : Result Z Fault) (c : Result Y Fault) (d : Result Z Fault) (h : Y → Result Z Fault) → b ≡ (a >>= h) → d ≡ (c >>= h) → cond test b d ≡ (cond test a c >>= h)
cond_bind true a b c d h p q = p
cond_bind false a b c d h p q = q

pub read_part : {A B : Type 0} (g : Grammar A) (f : A → Grammar B) (s : Sheet) → read (part g f) s ≡ (read g s >>= λ x. read (f x.0) x.1)
unfolding part
read_part (done x) f s = refl
read_part (nothing next) f s = bind_bind (nothing_at s) (λ _. read next s) (λ _. read (part next f) s) (λ x. read (f x.0) x.1) (λ _. read_part next f s)
read_part (word w next) f s = bind_bind (token_at (word_in w) s) (λ x. read next x.1) (λ x. read (part next f) x.1) (λ x. read (f x.0) x.1) (λ x. read_part next f x.1)
read_part (number low high next) f s = bind_bind (token_at (number_in low high) s) (λ x. read (next x.0) x.1) (λ x. read (part (next x.0) f) x.1) (λ x. read (f x.0) x.1) (λ x. read_part (next x.0) f x.1)
read_part (signed size next) f s = bind_bind (token_at (signed_in size) s) (λ x. read (next x.0) x.1) (λ x. read (part (next x.0) f) x.1) (λ x. read (f x.0) x.1) (λ x. read_part (next x.0) f x.1)
read_part (fork w first second) f s = cond_bind (is_next w s) (read first (after_next s)) (read (part first f) (after_next s)) (read second s) (read (part second f) s) (λ x. read (f x.0) x.1) (read_part first f (after_next s)) (read_part second f s)
read_part (barred w next) f s = bind_bind (barred_at w s) (λ _. read next s) (λ _. read (part next f) s) (λ x. read (f x.0) x.1) (λ _. read_part next f s)
read_part (only w next) f s = bind_bind (token_at (only_in w) s) (λ x. read next x.1) (λ x. read (part next f) x.1) (λ x. read (f x.0) x.1) (λ x. read_part next f x.1)
