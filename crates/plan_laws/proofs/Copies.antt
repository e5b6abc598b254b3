-- Calls of copies, path by path.
use Rattle.std.proofs.Common.{◌≡◌, ℕ, true, false, cond, Option, Some, None, List, [], ◌∷◌, ◌++◌, refl, ap, sym, subst, ◌∙◌, append-nil, append_assoc}
use Rattle.std.specs.List.{filter, AllByRecursion}
use Rattle.hs_types.specs.Names.{Names}
use Rattle.hs_plain.specs.declared.state.Body.TheVariants.{File, Dir}
use Rattle.hs_plain.specs.Tree.{parent_of}
use Rattle.hs_plain.proofs.ValidShapes.{true_false}
use Rattle.plan_laws.specs.Copies.{Content, Contents, CopyCall, Create, Append, path_of_call, is_at, done_here, all_here, is_dir_seen, fits_here, FitHere, call_done, calls_done, CallsGo, joined, appends}
use Rattle.plan_laws.proofs.Paths.{by}
use Rattle.plan_laws.proofs.Lists.{same-so, same-here}

-- what all calls leave at a path is what those at the path leave there
pub calls-here : (calls : List CopyCall) (seen : Contents) (q : Names) → calls_done seen calls q ≡ all_here (filter (is_at q) calls) (seen q)
calls-here [] seen q = refl
calls-here (call ∷ calls) seen q =
    calls-here calls (call_done seen call) q
    ∙ elim (is_at q call) as (λ b. all_here (filter (is_at q) calls) (cond b (done_here call (seen q)) (seen q)) ≡ all_here (cond b (call ∷ filter (is_at q) calls) (filter (is_at q) calls)) (seen q)) [
      | true ↦ refl
      | false ↦ refl
    ]

fit-rest : (q : Names) (call : CopyCall) (calls : List CopyCall) (seen : Contents) → FitHere (filter (is_at q) (call ∷ calls)) (seen q) → FitHere (filter (is_at q) calls) (call_done seen call q)
fit-rest q call calls seen h = (elim (is_at q call) as (λ b. FitHere (cond b (call ∷ filter (is_at q) calls) (filter (is_at q) calls)) (seen q) → FitHere (filter (is_at q) calls) (cond b (done_here call (seen q)) (seen q))) [
  | true ↦ λ h. h.1
  | false ↦ λ h. h
]) h

is_at-own : (call : CopyCall) → is_at (path_of_call call) call ≡ true
is_at-own call = same-here (path_of_call call)

fit-own : (call : CopyCall) (calls : List CopyCall) (seen : Contents) → FitHere (filter (is_at (path_of_call call)) (call ∷ calls)) (seen (path_of_call call)) → fits_here call (seen (path_of_call call)) ≡ true
fit-own call calls seen h = (subst (λ b. FitHere (cond b (call ∷ filter (is_at (path_of_call call)) calls) (filter (is_at (path_of_call call)) calls)) (seen (path_of_call call))) (is_at-own call) h).0

no-dir : (call : CopyCall) (seen : Option Content) → fits_here call seen ≡ true → is_dir_seen seen ≡ false
no-dir call None h = refl
no-dir (Create path) (Some Dir) h = absurd (true_false h refl)
no-dir (Append path bytes) (Some Dir) h = absurd (true_false h refl)
no-dir call (Some (File file)) h = refl

-- directories stay
dir-kept : (call : CopyCall) (seen : Contents) (d : Names) → fits_here call (seen (path_of_call call)) ≡ true → is_dir_seen (seen d) ≡ true → is_dir_seen (call_done seen call d) ≡ true
dir-kept call seen d fits dir = by (is_at d call)
    (λ t. absurd (true_false dir (ap (λ (x : Names). is_dir_seen (seen x)) (same-so (path_of_call call) d t) ∙ no-dir call (seen (path_of_call call)) fits)))
    (λ f. ap (λ b. is_dir_seen (cond b (done_here call (seen d)) (seen d))) f ∙ dir)

each-kept : (call : CopyCall) (seen : Contents) (calls : List CopyCall) → fits_here call (seen (path_of_call call)) ≡ true → AllByRecursion (λ c. is_dir_seen (seen (parent_of (path_of_call c))) ≡ true) calls →
    AllByRecursion (λ c. is_dir_seen (call_done seen call (parent_of (path_of_call c))) ≡ true) calls
each-kept call seen [] fits above = tt
each-kept call seen (c ∷ calls) fits above = (dir-kept call seen (parent_of (path_of_call c)) fits above.0, each-kept call seen calls fits above.1)

pub calls-go : (calls : List CopyCall) (seen : Contents) → ((q : Names) → FitHere (filter (is_at q) calls) (seen q)) → AllByRecursion (λ call. is_dir_seen (seen (parent_of (path_of_call call))) ≡ true) calls → CallsGo seen calls
calls-go [] seen fit above = tt
calls-go (call ∷ calls) seen fit above =
    let fits : fits_here call (seen (path_of_call call)) ≡ true = fit-own call calls seen (fit (path_of_call call)) in (
      record { above = above.0; fits = fits },
      calls-go calls (call_done seen call) (λ q. fit-rest q call calls seen (fit q)) (each-kept call seen calls fits above.1),
    )

pub dirs-kept : (calls : List CopyCall) (seen : Contents) (d : Names) → CallsGo seen calls → is_dir_seen (seen d) ≡ true → is_dir_seen (calls_done seen calls d) ≡ true
dirs-kept [] seen d go dir = dir
dirs-kept (call ∷ calls) seen d go dir = dirs-kept calls (call_done seen call) d go.1 (dir-kept call seen d go.0.fits dir)

-- ---- one copy

pub appends-here : (path : Names) (pages : List (List ℕ)) (file : List ℕ) → all_here (appends path pages) (Some (File file)) ≡ Some (File (file ++ joined pages))
appends-here path [] file = ap (λ (x : List ℕ). Some (File x)) (sym (append-nil file))
appends-here path (page ∷ pages) file = appends-here path pages (file ++ page) ∙ ap (λ (x : List ℕ). Some (File x)) (append_assoc file page (joined pages))

pub appends-fit : (path : Names) (pages : List (List ℕ)) (file : List ℕ) → FitHere (appends path pages) (Some (File file))
appends-fit path [] file = tt
appends-fit path (page ∷ pages) file = (refl, appends-fit path pages (file ++ page))
