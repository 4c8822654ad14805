pub mod HistoryTexts
mod CertificateTexts
mod Judged
