-- The French pieces. \u{a0} is the space that French sets before a colon, and \u{202f} the narrow one before a semicolon and between
-- thousands; no line breaks at either. Assumes nothing: these are definitions.
use Rattle.std.specs.Prelude.{[], ◌∷◌}
use Rattle.sentences.specs.Words.{Language, utf8, texts}

abbrev pub french : Language
french = record {
  line = utf8 "Ligne ";
  colon = utf8 "\u{a0}: ";
  alone = texts
      ("L’appel a été refusé par le numéro "
      ∷ "Le fichier de règles est vide ou dépasse 8\u{202f}192 octets (refus 1)."
      ∷ "Une ligne n’est pas faite de 1 à 120 paires de chiffres 0-9 et a-f, suivies d’un saut de ligne (refus 2)."
      ∷ "Le fichier de règles ne se termine pas par un objectif (refus 3)."
      ∷ "Une ligne est trop courte ou trop longue, ou contient un code qui ne peut pas se trouver là où il est (refus 4)."
      ∷ "Un nombre est hors de ses limites\u{a0}: rangées 0 à 8, colonnes 1 à 4, masque de clé dans les colonnes, lo au plus égal à hi, paires de clé 1 à 4, éléments de from 1 à 3, au plus 6 avec ceux des exists, colonnes sélectionnées 1 à 8, colonnes de regroupement 0 à 4, pas d’arrondi 1 à 1\u{202f}000, agrégat 0 à 3, signe 0 ou 1, au plus 16 relations et 16 clés étrangères (refus 5)."
      ∷ "Une ligne nomme une relation, un élément de from ou une colonne qui n’existe pas ou ne convient pas, ou ses colonnes ne correspondent pas à la clé du parent ou à l’autre vue (refus 6)."
      ∷ "Un agrégat se trouve hors du having et du select d’une vue d’agrégation ou dans un autre, une colonne hors de tout agrégat n’est pas une colonne de regroupement, ou un exists se trouve ailleurs que dans where (refus 7)."
      ∷ "Une vue pourrait avoir plus de 64 rangées (refus 8)."
      ∷ "Une valeur pourrait sortir de l’intervalle de −2\u{202f}147\u{202f}483\u{202f}648 à 2\u{202f}147\u{202f}483\u{202f}647 (refus 9)."
      ∷ "Les tables permettent plus de 16\u{202f}777\u{202f}216 bases de données (refus 10)."
      ∷ "La zone de travail a moins de 9\u{202f}216 nombres (refus 11)."
      ∷ "Le tampon d’instance a moins de nombres que les tables n’ont de cellules (refus 12)."
      ∷ "Le départ dépasse le nombre de candidats (refus 13)."
      ∷ "Les trames de réponse sont mal formées, manquantes ou en trop, ou n’ont pas les nombres de rangées du fichier de règles (refus 14)."
      ∷ "Aucune formule ne peut être écrite\u{a0}: le fichier permet des cellules vides, ou son objectif demande exists, une intersection, ou un agrégat sans colonne de regroupement ou sur plus de 6 combinaisons (refus 15)."
      ∷ "La formule est plus longue que le tampon prévu pour elle (refus 16)."
      ∷ "La part de chaque tour est 0\u{202f}; elle doit être d’au moins 1 (refus 17)."
      ∷ "La file a plus de 8 entrées, ou le texte d’une entrée finit au-delà du texte prêté (refus 18)."
      ∷ []);
  there = texts
      ("refusé par le numéro "
      ∷ "le fichier de règles est vide ou dépasse 8\u{202f}192 octets (refus 1)."
      ∷ "elle n’est pas faite de 1 à 120 paires de chiffres 0-9 et a-f, suivies d’un saut de ligne (refus 2)."
      ∷ "son type est inconnu ou n’est pas à sa place\u{202f}; l’ordre est tables, clés étrangères, vues, un objectif (refus 3)."
      ∷ "elle est trop courte ou trop longue, ou contient un code qui ne peut pas se trouver là où il est (refus 4)."
      ∷ "un nombre est hors de ses limites\u{a0}: rangées 0 à 8, colonnes 1 à 4, masque de clé dans les colonnes, lo au plus égal à hi, paires de clé 1 à 4, éléments de from 1 à 3, au plus 6 avec ceux des exists, colonnes sélectionnées 1 à 8, colonnes de regroupement 0 à 4, pas d’arrondi 1 à 1\u{202f}000, agrégat 0 à 3, signe 0 ou 1, au plus 16 relations et 16 clés étrangères (refus 5)."
      ∷ "elle nomme une relation, un élément de from ou une colonne qui n’existe pas ou ne convient pas, ou ses colonnes ne correspondent pas à la clé du parent ou à l’autre vue (refus 6)."
      ∷ "un agrégat se trouve hors du having et du select d’une vue d’agrégation ou dans un autre, une colonne hors de tout agrégat n’est pas une colonne de regroupement, ou un exists se trouve ailleurs que dans where (refus 7)."
      ∷ "cette vue pourrait avoir plus de 64 rangées (refus 8)."
      ∷ "une valeur pourrait sortir de l’intervalle de −2\u{202f}147\u{202f}483\u{202f}648 à 2\u{202f}147\u{202f}483\u{202f}647 (refus 9)."
      ∷ "les tables permettent plus de 16\u{202f}777\u{202f}216 bases de données (refus 10)."
      ∷ "la zone de travail a moins de 9\u{202f}216 nombres (refus 11)."
      ∷ "le tampon d’instance a moins de nombres que les tables n’ont de cellules (refus 12)."
      ∷ "le départ dépasse le nombre de candidats (refus 13)."
      ∷ "les trames de réponse sont mal formées, manquantes ou en trop, ou n’ont pas les nombres de rangées du fichier de règles (refus 14)."
      ∷ "aucune formule ne peut être écrite\u{a0}: le fichier permet des cellules vides, ou son objectif demande exists, une intersection, ou un agrégat sans colonne de regroupement ou sur plus de 6 combinaisons (refus 15)."
      ∷ "la formule est plus longue que le tampon prévu pour elle (refus 16)."
      ∷ "la part de chaque tour est 0\u{202f}; elle doit être d’au moins 1 (refus 17)."
      ∷ "la file a plus de 8 entrées, ou le texte d’une entrée finit au-delà du texte prêté (refus 18)."
      ∷ []);
  close = utf8 ", qui n’a pas sa propre phrase.";
}
